-- An open trail that has what the possible clauses of a journal ask for.
use Rattle.std.specs.Prelude.{◌≡◌, ◌⊎◌, false, List, Some}
use Rattle.std.specs.List.{Contains}
use Rattle.ae_core.specs.declared.formulas.Formula.{Eq, Lt, out-Formula}
use Rattle.ae_core.specs.declared.formulas.Lit.{Lit}
use Rattle.ae_core.specs.declared.terms.Term.{Term}
use Rattle.ae_explain.specs.Trail.{Apart}
use Rattle.ae_explain.specs.declared.trail.Assigned.{Assigned}
use Rattle.ae_journal.specs.Journals.{IsDecided}
use Rattle.ae_journal.specs.Standing.{IsEntered, IsGiven, Setting}
use Rattle.ae_journal.specs.States.{is_universal}
use Rattle.ae_journal.specs.declared.lines.Line.{Line}
use Rattle.ae_propagation.specs.Settled.{Holds}
use Rattle.ae_rules.specs.Clauses.{Clause, is_true, is_false, opposite}
use Rattle.ae_rules.specs.Instances.{exhaustion, fresh_clause}
use Rattle.ae_sat.specs.Search.{IsOpen}
use Rattle.ae_sat.specs.Standing.{IsOneOf}

-- a clause has the equation of a term with itself, or no literal of it is false
pub data IsUndenied (t : List Assigned) (c : Clause) : Type 0 where
  itself : (s : Term) → Contains c (is_true (Eq s s)) → IsUndenied t c
  none_false : ((l : Lit) → Contains c l → ¬ Holds t (opposite l)) → IsUndenied t c

-- each clause has a true literal, and so have the rows of true literals; the given clauses are there, the `fresh` clause of each literal that asks for terms, and the
-- clause of each name of an enumeration of which something is denied; no term differs from itself, and of two terms of which it is denied that they are equal and
-- that the one is below the other, the other is below the one
pub record IsFilled (x : Setting) (js : List Line) (t : List Assigned) (clauses : List Clause) : Type 0 where
  pub apart : Apart t
  pub all_true : IsOpen t clauses
  pub decided : (l : Lit) → IsDecided js l → Holds t l
  pub given : (c : Clause) → IsGiven x js c → IsOneOf clauses c
  pub served : (l : Lit) (c : Clause) → Holds t l → is_universal l ≡ false → fresh_clause l.formula (x.fresh l.formula) (out-Formula l.formula) ≡ Some c → IsOneOf clauses c
  pub choices : (u : Term) (c : Clause) → IsEntered x js u → exhaustion x.problem.signature u ≡ Some c → IsOneOf clauses c ⊎ IsUndenied t c
  pub reflexive : (s : Term) → ¬ Holds t (is_false (Eq s s))
  pub orders : (s u : Term) → Holds t (is_false (Eq s u)) ⊎ Holds t (is_false (Eq u s)) → Holds t (is_false (Lt s u)) → Holds t (is_true (Lt u s))
