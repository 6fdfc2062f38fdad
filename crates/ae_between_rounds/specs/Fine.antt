-- What the formulas, names and lines of a search keep: numerals in lowest terms, and that there is no inequality.
use Rattle.std.specs.Prelude.{◌≡◌, true, not, List}
use Rattle.std.specs.List.{AllByRecursion, Contains}
use Rattle.ae_core.specs.declared.formulas.Formula.{Formula, out-Formula}
use Rattle.ae_core.specs.declared.formulas.Lit.{Lit}
use Rattle.ae_core.specs.declared.proofs.ClauseLine.{ClauseLine}
use Rattle.ae_core.specs.declared.terms.Term.{Term}
use Rattle.ae_legal_texts.specs.Numbers.{line_numbers}
use Rattle.ae_legal_texts.specs.Writable.{is_negation, no_negations_in}
use Rattle.ae_numerals_kept.specs.Lowest.{IsLowest, IsLowestTerm}
use Rattle.ae_orderless.specs.Orderless.{is_orderless}
use Rattle.ae_rules.specs.Clauses.{Clause}
use Rattle.ae_sat.specs.Standing.{IsOneOf}
use Rattle.ae_store.specs.Stores.{Stored}
use Rattle.ae_theory.specs.Names.{terms_in}
use Rattle.ae_writable.specs.Numbers.{AreValuesWithin}

-- numerals are in lowest terms, and the formula is no negation
abbrev pub IsFineFormula : Formula → Type 0
IsFineFormula f = IsLowest f × (not (is_negation (out-Formula f)) ≡ true)

-- numerals and factors are within their limits, and literals are written without negations
abbrev pub IsFineLine : ClauseLine → Type 0
IsFineLine l = AreValuesWithin (line_numbers l) × (no_negations_in l ≡ true)

-- the names, the formulas of the clauses, and the lines are such
pub record AreFine (s : Stored) (ls : List ClauseLine) (cs : List Clause) : Type 0 where
  pub names : (t : Term) → Contains (terms_in s) t → IsLowestTerm t
  pub formulas : (c : Clause) (l : Lit) → IsOneOf cs c → Contains c l → IsFineFormula l.formula
  pub lines : AllByRecursion IsFineLine ls

-- no inequality stands in the clauses
abbrev pub AreOrderless : List Clause → Type 0
AreOrderless clauses = (c : Clause) (l : Lit) → IsOneOf clauses c → Contains c l → is_orderless l.formula ≡ true
