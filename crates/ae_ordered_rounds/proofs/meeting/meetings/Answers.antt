use Rattle.std.proofs.Common.{sym, subst}
use Rattle.ae_ordered_rounds.proofs.Denied.{normal_forms}
use Rattle.ae_state.specs.Complete.{IsComplete}
use Rattle.ae_state.specs.Fitting.{FitsStore}
use Rattle.ae_state.specs.declared.holding.Holding.{Holding}
use Rattle.ae_ordered_rounds.proofs.meeting.meetings.Goals as goal

pub system-requires : goal.system-requires
system-requires v c = record { fits = subst (λ (h : Holding). FitsStore h c.args.search.now.store) (sym c.theory.ensures) c.requires.fits }

pub all_meetings-requires : goal.all_meetings-requires
all_meetings-requires v c = record {
  normal = normal_forms c.args.search.now.store.signature c.in_ok-system.system (c.in_ok-system.ensures.completed (subst IsComplete (sym c.theory.ensures) c.requires.complete));
}
