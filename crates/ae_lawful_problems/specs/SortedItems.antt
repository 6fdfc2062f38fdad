-- Axioms and goals whose formulas are closed and well sorted.
use Rattle.std.specs.Prelude.{Bool, true, false, nat_lt, [], ◌≡◌}
use Rattle.ae_core.specs.Constants.{formula_constants}
use Rattle.ae_core.specs.Signatures.{is_sort_over}
use Rattle.ae_core.specs.Sorts.{sort_ok, formula_in}
use Rattle.ae_core.specs.declared.terms.Sort.{Sort}
use Rattle.ae_core.specs.declared.formulas.Formula.{Formula}
use Rattle.ae_core.specs.declared.problems.Item.{Item}
use Rattle.ae_core.specs.declared.problems.Item.TheVariants.{Axiom, Goal}
use Rattle.ae_core.specs.declared.problems.Signature.{Signature}

-- the formula is closed and well sorted with the type variables of its item, and no fresh constant occurs in it
abbrev pub IsSortedFormula : Signature → (Sort → Bool) → Formula → Type 0
IsSortedFormula sig may f = (formula_in sig may [] f ≡ true) × (formula_constants f ≡ [])

abbrev pub IsSortedItem : Signature → Item → Type 0
IsSortedItem sig (Axiom name vars f) = IsSortedFormula sig (is_sort_over sig vars) f
IsSortedItem sig (Goal name rigid f) = IsSortedFormula sig (sort_ok sig (λ i. false) (λ i. nat_lt i rigid)) f
