-- The rows that a literal calls for at each kind of formula, and that each of their lines is allowed.
use Rattle.std.specs.Prelude.{ℕ, Bool, true, false, List, [], ◌∷◌, ◌≡◌, map, Some}
use Rattle.std.specs.List.{AllByRecursion}
use mathlib.Core.Path.{sym, ap, subst}
use Rattle.ae_core.specs.Inner.Induction.{by_formulas}
use Rattle.ae_core.specs.Sorts.{formula_ok}
use Rattle.ae_rules.specs.Clauses.{Clause, row}
use Rattle.ae_rules.specs.Derivations.{IsAllowed}
use Rattle.ae_rules.proofs.SortedLines.{clause_stated}
use Rattle.ae_rules.proofs.ClauseLaws.{row_true, row_false, row_and, row_or, row_xor, row_iff}
use Rattle.ae_core.specs.declared.terms.Sort.{Sort}
use Rattle.ae_core.specs.declared.terms.Term.{Term}
use Rattle.ae_core.specs.declared.formulas.Formula.{Formula, True, False, Eq, Lt, Le, Pred, Not, And, Or, Xor, Iff, All, Ex}
use Rattle.ae_core.specs.declared.formulas.Formula.TheVariants.{outs-True, outs-False, outs-Eq, outs-Lt, outs-Le, outs-Pred, outs-Not, outs-And, outs-Or, outs-Xor, outs-Iff, outs-All, outs-Ex}
use Rattle.ae_core.specs.declared.formulas.Quant.{Quant}
use Rattle.ae_core.specs.declared.problems.Problem.{Problem}
use Rattle.ae_core.specs.declared.proofs.ClauseLine.{ClauseLine}
use Rattle.ae_core.specs.declared.proofs.ClauseLine.TheVariants.{Def}
use Rattle.ae_rules.specs.Defining.{called_rows, called_rows_of}

pub called_true : (sign : Bool) → called_rows sign True ≡ 15 ∷ []
unfolding called_rows called_rows_of
called_true sign = ap (λ g. called_rows_of g sign) outs-True

pub called_false : (sign : Bool) → called_rows sign False ≡ 16 ∷ []
unfolding called_rows called_rows_of
called_false sign = ap (λ g. called_rows_of g sign) outs-False

pub called_eq : (sign : Bool) (a b : Term) → called_rows sign (Eq a b) ≡ []
unfolding called_rows called_rows_of
called_eq sign a b = ap (λ g. called_rows_of g sign) (outs-Eq a b)

pub called_lt : (sign : Bool) (a b : Term) → called_rows sign (Lt a b) ≡ []
unfolding called_rows called_rows_of
called_lt sign a b = ap (λ g. called_rows_of g sign) (outs-Lt a b)

pub called_le : (sign : Bool) (a b : Term) → called_rows sign (Le a b) ≡ []
unfolding called_rows called_rows_of
called_le sign a b = ap (λ g. called_rows_of g sign) (outs-Le a b)

pub called_pred : (sign : Bool) (p : ℕ) (ss : List Sort) (us : List Term) → called_rows sign (Pred p ss us) ≡ []
unfolding called_rows called_rows_of
called_pred sign p ss us = ap (λ g. called_rows_of g sign) (outs-Pred p ss us)

pub called_not : (sign : Bool) (a : Formula) → called_rows sign (Not a) ≡ []
unfolding called_rows called_rows_of
called_not sign a = ap (λ g. called_rows_of g sign) (outs-Not a)

pub called_and_yes : (a b : Formula) → called_rows true (And a b) ≡ 1 ∷ 2 ∷ []
unfolding called_rows called_rows_of
called_and_yes a b = ap (λ g. called_rows_of g true) (outs-And a b)

pub called_and_no : (a b : Formula) → called_rows false (And a b) ≡ 3 ∷ []
unfolding called_rows called_rows_of
called_and_no a b = ap (λ g. called_rows_of g false) (outs-And a b)

pub called_or_yes : (a b : Formula) → called_rows true (Or a b) ≡ 6 ∷ []
unfolding called_rows called_rows_of
called_or_yes a b = ap (λ g. called_rows_of g true) (outs-Or a b)

pub called_or_no : (a b : Formula) → called_rows false (Or a b) ≡ 4 ∷ 5 ∷ []
unfolding called_rows called_rows_of
called_or_no a b = ap (λ g. called_rows_of g false) (outs-Or a b)

pub called_xor_yes : (a b : Formula) → called_rows true (Xor a b) ≡ 11 ∷ 12 ∷ []
unfolding called_rows called_rows_of
called_xor_yes a b = ap (λ g. called_rows_of g true) (outs-Xor a b)

pub called_xor_no : (a b : Formula) → called_rows false (Xor a b) ≡ 13 ∷ 14 ∷ []
unfolding called_rows called_rows_of
called_xor_no a b = ap (λ g. called_rows_of g false) (outs-Xor a b)

pub called_iff_yes : (a b : Formula) → called_rows true (Iff a b) ≡ 7 ∷ 8 ∷ []
unfolding called_rows called_rows_of
called_iff_yes a b = ap (λ g. called_rows_of g true) (outs-Iff a b)

pub called_iff_no : (a b : Formula) → called_rows false (Iff a b) ≡ 9 ∷ 10 ∷ []
unfolding called_rows called_rows_of
called_iff_no a b = ap (λ g. called_rows_of g false) (outs-Iff a b)

pub called_all : (sign : Bool) (q : Quant) → called_rows sign (All q) ≡ []
unfolding called_rows called_rows_of
called_all sign q = ap (λ g. called_rows_of g sign) (outs-All q)

pub called_ex : (sign : Bool) (q : Quant) → called_rows sign (Ex q) ≡ []
unfolding called_rows called_rows_of
called_ex sign q = ap (λ g. called_rows_of g sign) (outs-Ex q)

pub ruleset called_rules = (called_true, called_false, called_eq, called_lt, called_le, called_pred, called_not, called_and_yes, called_and_no, called_or_yes, called_or_no, called_xor_yes, called_xor_no, called_iff_yes, called_iff_no, called_all, called_ex)

-- ---- each line is allowed
abbrev HasRow : Formula → ℕ → Type 0
HasRow f r = (c : Clause) × (row r f ≡ Some c)

module _ (p : Problem) (goal : ℕ) (earlier : List ClauseLine) where
  abbrev AreAllowed : Formula → Bool → Type 0
  AreAllowed f sign = formula_ok p.signature f ≡ true → AllByRecursion (IsAllowed p goal earlier) (map (λ r. Def r f) (called_rows sign f))

  each : (f : Formula) → formula_ok p.signature f ≡ true → (rows : List ℕ) → AllByRecursion (HasRow f) rows → AllByRecursion (IsAllowed p goal earlier) (map (λ r. Def r f) rows)
  each f ok [] h = tt
  each f ok (r ∷ rows) h = (((h.0.0, clause_stated p goal (Def r f) h.0.0 ok h.0.1), tt), each f ok rows h.1)

  with_rows : (f : Formula) (sign : Bool) (rows : List ℕ) → called_rows sign f ≡ rows → AllByRecursion (HasRow f) rows → AreAllowed f sign
  with_rows f sign rows e h ok = subst (λ ns. AllByRecursion (IsAllowed p goal earlier) (map (λ r. Def r f) ns)) (sym e) (each f ok rows h)

  with_none : (f : Formula) (sign : Bool) → called_rows sign f ≡ [] → AreAllowed f sign
  with_none f sign e = with_rows f sign [] e tt

  of_and : (a b : Formula) (sign : Bool) → AreAllowed (And a b) sign
  of_and a b true = with_rows (And a b) true (1 ∷ 2 ∷ []) (called_and_yes a b) ((_, row_and 1 a b), ((_, row_and 2 a b), tt))
  of_and a b false = with_rows (And a b) false (3 ∷ []) (called_and_no a b) ((_, row_and 3 a b), tt)

  of_or : (a b : Formula) (sign : Bool) → AreAllowed (Or a b) sign
  of_or a b true = with_rows (Or a b) true (6 ∷ []) (called_or_yes a b) ((_, row_or 6 a b), tt)
  of_or a b false = with_rows (Or a b) false (4 ∷ 5 ∷ []) (called_or_no a b) ((_, row_or 4 a b), ((_, row_or 5 a b), tt))

  of_xor : (a b : Formula) (sign : Bool) → AreAllowed (Xor a b) sign
  of_xor a b true = with_rows (Xor a b) true (11 ∷ 12 ∷ []) (called_xor_yes a b) ((_, row_xor 11 a b), ((_, row_xor 12 a b), tt))
  of_xor a b false = with_rows (Xor a b) false (13 ∷ 14 ∷ []) (called_xor_no a b) ((_, row_xor 13 a b), ((_, row_xor 14 a b), tt))

  of_iff : (a b : Formula) (sign : Bool) → AreAllowed (Iff a b) sign
  of_iff a b true = with_rows (Iff a b) true (7 ∷ 8 ∷ []) (called_iff_yes a b) ((_, row_iff 7 a b), ((_, row_iff 8 a b), tt))
  of_iff a b false = with_rows (Iff a b) false (9 ∷ 10 ∷ []) (called_iff_no a b) ((_, row_iff 9 a b), ((_, row_iff 10 a b), tt))

  pub called_allowed : (f : Formula) (sign : Bool) → formula_ok p.signature f ≡ true → AllByRecursion (IsAllowed p goal earlier) (map (λ r. Def r f) (called_rows sign f))
  called_allowed =
      by_formulas (λ f. (sign : Bool) → AreAllowed f sign) (λ q. Unit {0})
      (λ s. with_rows True s (15 ∷ []) (called_true s) ((_, row_true 15), tt))
      (λ s. with_rows False s (16 ∷ []) (called_false s) ((_, row_false 16), tt))
      (λ a b s. with_none (Eq a b) s (called_eq s a b))
      (λ a b s. with_none (Lt a b) s (called_lt s a b))
      (λ a b s. with_none (Le a b) s (called_le s a b))
      (λ q ss us s. with_none (Pred q ss us) s (called_pred s q ss us))
      (λ a h s. with_none (Not a) s (called_not s a))
      (λ a b h k s. of_and a b s)
      (λ a b h k s. of_or a b s)
      (λ a b h k s. of_xor a b s)
      (λ a b h k s. of_iff a b s)
      (λ q h s. with_none (All q) s (called_all s q))
      (λ q h s. with_none (Ex q) s (called_ex s q))
      (λ q h. tt)
