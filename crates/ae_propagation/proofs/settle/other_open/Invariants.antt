use Rattle.std.proofs.Common.{◌≡◌, ℕ, ◌<◌, get_or, ◌≢◌}
use Rattle.ae_core.specs.declared.formulas.Lit.{Lit}
use Rattle.ae_explain.specs.Trail.{IsFalse}
use Rattle.ae_propagation.proofs.settle.other_open.Given as goal

abbrev pub invariant-loop-i : goal.invariant-loop-i
invariant-loop-i l = (k : ℕ) (m : Lit) → k < l.i → get_or l.clause k m ≡ m → m ≢ l.own → IsFalse l.trail.assigned m
