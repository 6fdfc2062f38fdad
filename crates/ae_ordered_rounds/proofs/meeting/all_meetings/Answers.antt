use Rattle.std.specs.Prelude.{ℕ, ◌<◌}
use Rattle.std.proofs.Common.{sym, subst}
use Rattle.ae_ordered_rounds.proofs.meeting.all_meetings.Goals as goal

pub meeting_by-requires-clause-normal : goal.meeting_by-requires-clause-normal
meeting_by-requires-clause-normal c = c.requires.normal

pub meeting_by-requires-clause-holds : goal.meeting_by-requires-clause-holds
meeting_by-requires-clause-holds c =
    (c.loop-place.place, subst (λ (n : ℕ). c.loop-place.place < n) c.len-place-end.ensures c.loop-place-test.true, sym c.lit_at.ensures)
