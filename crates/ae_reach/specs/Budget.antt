-- What occurs in a goal; goals for which a search decides nothing, and the terms that bound how many lines it notes.
use Rattle.std.specs.Prelude.{ℕ, List, [], ◌≡◌, length, Some}
use Rattle.std.specs.List.{Contains}
use Rattle.ae_core.specs.Sorts.{sort_of}
use Rattle.ae_core.specs.Putting.{put_formula}
use Rattle.ae_core.specs.declared.terms.Sort.{Sort}
use Rattle.ae_core.specs.declared.terms.Term.{Term, Apply}
use Rattle.ae_core.specs.declared.terms.Head.{Head}
use Rattle.ae_core.specs.declared.terms.Head.TheVariants as head
use Rattle.ae_core.specs.declared.formulas.Formula.{Formula, All}
use Rattle.ae_core.specs.declared.formulas.Quant.{Quant}
use Rattle.ae_core.specs.declared.problems.Problem.{Problem}
use Rattle.ae_rules.specs.Clauses.{yes_of, no_of}
use Rattle.ae_rules.specs.Defining.{ComesApart}
use Rattle.ae_rules.specs.Derivations.{goal_body}
use Rattle.ae_rules.specs.Instances.{hypothesis, count_from}
use Rattle.ae_rules.specs.Lines.{IsAc}
use Rattle.ae_journal.specs.Ground.{HoldsEnumeration}
use Rattle.ae_journal.specs.States.{outside}
use Rattle.ae_journal.specs.Systems.{record_fields, field_terms}

module _ (p : Problem) (g : ℕ) where
  -- a hypothesis, the goal, or where the goal is a block, its body with constants for the variables
  pub data IsFirst : Formula → Type 0 where
    a_hypothesis : (k : ℕ) (f : Formula) → hypothesis p g k [] ≡ Some f → IsFirst f
    the_goal : (f : Formula) → goal_body p g ≡ Some f → IsFirst f
    the_block : (q : Quant) → goal_body p g ≡ Some (All q) → IsFirst (put_formula (count_from 0 q.sorts) q.body)

  -- a term or a predicate's application of these outside quantified parts, an argument of one, or a field of one that is a record
  pub data Occurs : Term → Type 0 where
    itself : {t : Term} (f : Formula) → IsFirst f → Contains (outside f) t → Occurs t
    argument : {t : Term} (h : Head) (ss : List Sort) (us : List Term) → Occurs (Apply h ss us) → Contains us t → Occurs t
    field : {t : Term} (s : Sort) (ss : List Sort) (u : Term) → Occurs u → sort_of p.signature u ≡ Some s → record_fields p.signature s ≡ Some ss
        → Contains (field_terms s u (length ss)) t → Occurs t

  -- the hypotheses and the negated goal come apart into literals, so nothing is left to choose
  pub record IsConjunctive : Type 0 where
    pub hypotheses : (k : ℕ) (f : Formula) → hypothesis p g k [] ≡ Some f → ComesApart (yes_of f)
    pub goal : (f : Formula) → goal_body p g ≡ Some f → ComesApart (no_of f)
    pub block : (q : Quant) → goal_body p g ≡ Some (All q) → ComesApart (no_of (put_formula (count_from 0 q.sorts) q.body))

  -- no declared AC symbol is applied
  abbrev pub HasNoSymbols : Type 0
  HasNoSymbols = (k : ℕ) (ss : List Sort) (us : List Term) → Occurs (Apply (head.Symbol k) ss us) → ¬ (IsAc p.signature (head.Symbol k))

  -- no term of a sort that holds an enumeration occurs
  abbrev pub HasNoEnumerations : Type 0
  HasNoEnumerations = (t : Term) (s : Sort) → Occurs t → sort_of p.signature t ≡ Some s → ¬ (HoldsEnumeration p.signature s)

  -- the list has all terms that occur, but for predicates' applications
  abbrev pub HoldsTerms : List Term → Type 0
  HoldsTerms ts = (t : Term) (s : Sort) → Occurs t → sort_of p.signature t ≡ Some s → Contains ts t
