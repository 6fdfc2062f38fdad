-- Formulas of literals that can be written: numerals are in lowest terms, and none is a negation.
use Rattle.std.specs.Prelude.{Bool, true, false, not, [], ◌∷◌, ◌≡◌}
use Rattle.std.specs.List.{AllByRecursion, flat_map}
use Rattle.std.proofs.Common.{refl, ap}
use Rattle.std.proofs.lemmas.Bool.{and_from, and_parts}
use Rattle.ae_base.proofs.AllOf.{all_append}
use Rattle.ae_core.specs.declared.formulas.Formula.{Formula, Eq, All, out-Formula}
use Rattle.ae_core.specs.declared.formulas.Formula.TheVariants.{outs-Eq, outs-All}
use Rattle.ae_core.specs.declared.formulas.Lit.{Lit}
use Rattle.ae_core.specs.declared.formulas.Quant.{Quant}
use Rattle.ae_core.specs.declared.terms.Term.{Term}
use Rattle.ae_rules.specs.Clauses.{Clause, literal, yes_of, no_of}
use Rattle.ae_legal_texts.proofs.Signs.{said_direct}
use Rattle.ae_legal_texts.specs.Numbers.{literal_numbers}
use Rattle.ae_legal_texts.specs.Writable.{is_negation, no_negations}
use Rattle.ae_writable.specs.Numbers.{IsValueWithin, AreValuesWithin}
use Rattle.ae_numerals_kept.specs.Lowest.{IsLowest}

abbrev pub is_direct : Formula → Bool
is_direct f = not (is_negation (out-Formula f))

abbrev pub IsDirect : Formula → Type 0
IsDirect f = is_direct f ≡ true

abbrev pub IsFine : Formula → Type 0
IsFine f = IsLowest f × IsDirect f

direct_yes : (f : Formula) → IsDirect (yes_of f).formula
direct_yes f = (and_parts (is_direct (yes_of f).formula) (no_negations (no_of f ∷ [])) (said_direct f)).0

direct_no : (f : Formula) → IsDirect (no_of f).formula
direct_no f = (and_parts (is_direct (no_of f).formula) true (and_parts (is_direct (yes_of f).formula) (no_negations (no_of f ∷ [])) (said_direct f)).1).0

pub direct_literal : (sign : Bool) (f : Formula) → IsDirect (literal sign f).formula
direct_literal true f = direct_yes f
direct_literal false f = direct_no f

pub direct_block : (q : Quant) → IsDirect (All q)
direct_block q = ap (λ l. not (is_negation l)) (outs-All q)

pub direct_equation : (a b : Term) → IsDirect (Eq a b)
direct_equation a b = ap (λ l. not (is_negation l)) (outs-Eq a b)

-- ---- clauses over such formulas
pub values_of : (c : Clause) → AllByRecursion (λ (l : Lit). IsFine l.formula) c → AreValuesWithin (flat_map literal_numbers c)
values_of [] a = tt
values_of (l ∷ c) a = all_append IsValueWithin (literal_numbers l) (flat_map literal_numbers c) (a.0).0 (values_of c a.1)

pub signs_of : (c : Clause) → AllByRecursion (λ (l : Lit). IsFine l.formula) c → no_negations c ≡ true
signs_of [] a = refl
signs_of (l ∷ c) a = and_from (is_direct l.formula) (no_negations c) (a.0).1 (signs_of c a.1)
