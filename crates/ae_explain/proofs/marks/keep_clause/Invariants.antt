use Rattle.std.proofs.Common.{◌≡◌, ℕ, ◌<◌, true, false, Some, get_or}
use Rattle.ae_core.specs.declared.formulas.Lit.{Lit}
use Rattle.ae_explain.specs.Trail.{place_in}
use Rattle.ae_explain.specs.Inner.Marks.{mark, marked, kept, kept_at, IsPlaceOf}
use Rattle.ae_explain.proofs.marks.keep_clause.Given as goal

abbrev pub invariant-loop-lit : goal.invariant-loop-lit
invariant-loop-lit l = record {
  grows : (p : ℕ) → marked l.fn.marks p ≡ true → mark l.marks p ≡ mark l.fn.marks p;
  fresh : (p : ℕ) → marked l.fn.marks p ≡ false → marked l.marks p ≡ true → (kept l.marks p ≡ true) × IsPlaceOf l.trail.assigned l.clause p;
  all : (k : ℕ) (m : Lit) → k < l.lit-index → get_or l.clause k m ≡ m → (p : ℕ) → place_in l.trail.assigned m.formula ≡ Some p → marked l.marks p ≡ true;
  count : l.count ≡ kept_at l.trail.assigned l.marks l.level;
}
