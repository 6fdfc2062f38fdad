use Rattle.std.proofs.Common.{◌≡◌, ℕ, ◌<◌, get_or}
use Rattle.ae_core.specs.declared.formulas.Lit.{Lit}
use Rattle.ae_propagation.specs.Settled.{Holds}
use Rattle.ae_propagation.proofs.settle.true_one.Given as goal

abbrev pub invariant-loop-i : goal.invariant-loop-i
invariant-loop-i l = (k : ℕ) (m : Lit) → k < l.i → get_or l.clause k m ≡ m → Holds l.trail.assigned m → ⊥
