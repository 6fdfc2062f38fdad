use Rattle.std.proofs.Common.{◌≡◌, ℕ, ◌<◌, get_or, true, None}
use Rattle.ae_core.specs.declared.formulas.Lit.{Lit}
use Rattle.ae_explain.specs.Trail.{place_in}
use Rattle.ae_sat.specs.Strict.{is_strict}
use Rattle.ae_sat.proofs.choose.strict_place.Given as goal

abbrev pub invariant-loop-i : goal.invariant-loop-i
invariant-loop-i l = (k : ℕ) (m : Lit) → k < l.i → get_or l.clause k m ≡ m → is_strict m ≡ true → place_in l.trail.assigned m.formula ≡ None → ⊥
