use Rattle.std.proofs.Common.{◌≡◌, ℕ, ◌<◌, get_or}
use Rattle.ae_core.specs.declared.formulas.Lit.{Lit}
use Rattle.ae_explain.specs.Trail.{IsFalse}
use Rattle.ae_explain.proofs.lawful.are_false.Given as goal

abbrev pub invariant-loop-lit : goal.invariant-loop-lit
invariant-loop-lit l = (k : ℕ) (m : Lit) → k < l.lit-index → get_or l.clause k m ≡ m → IsFalse l.trail.assigned m
