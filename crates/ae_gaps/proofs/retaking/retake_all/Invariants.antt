use Rattle.std.specs.Prelude.{ℕ, ◌<◌}
use Rattle.ae_state.specs.Names.{rules_now}
use Rattle.ae_gaps.specs.Inner.Overlapping.{AreJoined}
use Rattle.ae_gaps.proofs.Going.{IsGoingOn}
use Rattle.ae_gaps.proofs.retaking.retake_all.Given as goal

abbrev pub invariant-loop-second : goal.invariant-loop-second
invariant-loop-second l = record {
  going : IsGoingOn l.store l.fn.held l.fn.journal l.held l.journal;
  joined : (m n : ℕ) → m < n → n < l.second → AreJoined (rules_now l.fn.held) m n;
}
