use Rattle.std.proofs.Common.{◌≡◌, ℕ, ◌<◌, get_or}
use Rattle.ae_core.specs.declared.formulas.Lit.{Lit}
use Rattle.ae_sat.specs.Layers.{HoldsUpTo}
use Rattle.ae_searching.proofs.levels.has_true_by.Given as goal

abbrev pub invariant-loop-i : goal.invariant-loop-i
invariant-loop-i l = (k : ℕ) (m : Lit) → k < l.i → get_or l.clause k m ≡ m → ¬ HoldsUpTo l.trail.assigned l.level m
