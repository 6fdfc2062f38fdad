-- Instances that were noted, and the generations that formulas have by them.
use Rattle.std.specs.Prelude.{ℕ, ◌<◌, List, [], ◌≡◌, Some}
use Rattle.std.specs.List.{Contains}
use Rattle.ae_core.specs.declared.formulas.Formula.{Formula, out-Formula}
use Rattle.ae_core.specs.declared.formulas.Lit.{Lit}
use Rattle.ae_core.specs.declared.problems.Problem.{Problem}
use Rattle.ae_core.specs.declared.terms.Sort.{Sort}
use Rattle.ae_core.specs.declared.terms.Term.{Term}
use Rattle.ae_rules.specs.Clauses.{Clause, yes_of, no_of}
use Rattle.ae_rules.specs.Derivations.{goal_body}
use Rattle.ae_rules.specs.Instances.{hypothesis, fresh_clause}
use Rattle.ae_journal.specs.Standing.{parts_of}
use Rattle.ae_journal.specs.States.{Owner, instance_literals}

-- what was instantiated, with which sorts and terms, and the least number at which it was found to be a match
pub record Instance : Type 0 where
  pub owner : Owner
  pub sorts : List Sort
  pub terms : List Term
  pub number : ℕ

-- the literals of an instance
abbrev pub brought : Problem → ℕ → Instance → List Lit
brought p g i = instance_literals p g i.owner i.sorts i.terms

module _ (p : Problem) (g : ℕ) (opened : List (Formula × ℕ)) (instances : List Instance) where
  -- the formulas that have generation at most n: those of the hypotheses without type variables and of the goal, those of instances of a number below n, what
  -- the `fresh` clause of one of them that was opened says, each with its first constant, and parts
  pub data IsAged (n : ℕ) : Formula → Type 0 where
    of_hypothesis : (k : ℕ) (f : Formula) → hypothesis p g k [] ≡ Some f → IsAged n (yes_of f).formula
    of_goal : (f : Formula) → goal_body p g ≡ Some f → IsAged n (no_of f).formula
    of_instance : (i : Instance) (l : Lit) → Contains instances i → i.number < n → Contains (brought p g i) l → IsAged n l.formula
    of_opened : (f : Formula) (m : ℕ) (c : Clause) (l : Lit) → IsAged n f → Contains opened (f, m) → fresh_clause f m (out-Formula f) ≡ Some c → Contains c l → IsAged n l.formula
    of_part : (f h : Formula) → IsAged n f → Contains (parts_of f) h → IsAged n h
