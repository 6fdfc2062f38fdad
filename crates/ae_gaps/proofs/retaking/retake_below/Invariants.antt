use Rattle.std.specs.Prelude.{ℕ, ◌<◌}
use Rattle.ae_state.specs.Names.{rules_now}
use Rattle.ae_gaps.specs.Inner.Overlapping.{AreJoined}
use Rattle.ae_gaps.proofs.Going.{IsGoingOn}
use Rattle.ae_gaps.proofs.retaking.retake_below.Given as goal

abbrev pub invariant-loop-first : goal.invariant-loop-first
invariant-loop-first l = record {
  going : IsGoingOn l.store l.fn.held l.fn.journal l.held l.journal;
  joined : (m : ℕ) → m < l.first → AreJoined (rules_now l.fn.held) m l.second;
}
