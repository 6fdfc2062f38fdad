-- Names that are the same, and what follows from the equations that are assumed.
use Rattle.std.specs.Prelude.{ℕ, ◌<◌, true, List, ◌≡◌, length, slice_get, IsTrue, Some}
use Rattle.ae_core.specs.Sorts.{sort_of}
use Rattle.ae_core.specs.declared.formulas.Lit.{Lit}
use Rattle.ae_core.specs.declared.problems.Signature.{Signature}
use Rattle.ae_core.specs.declared.terms.Sort.{Sort}
use Rattle.ae_core.specs.declared.terms.Term.{Term}
use Rattle.ae_evaluation.specs.Consequences.{Stated}
use Rattle.ae_journal.specs.Systems.{IsPredicateName}
use Rattle.ae_just.specs.Sides.{side_term}
use Rattle.ae_just.specs.Steps.{Fits}
use Rattle.ae_just.specs.declared.steps.Step.{Step}
use Rattle.ae_rules.specs.Linear.{is_plain}
use Rattle.ae_rules.specs.Lines.{Conseq, PlainConseq}
use Rattle.ae_state.specs.Complete.{AreWellSorted, IsComplete}
use Rattle.ae_state.specs.Names.{assumed_in}
use Rattle.ae_state.specs.declared.holding.Holding.{Holding}
use Rattle.ae_store.specs.Stores.{Stored}
use Rattle.ae_store.specs.Terms.{named}
use Rattle.ae_theory.specs.Names.{terms_in}
use Rattle.ae_theory.specs.Noting.{literals}
use Rattle.ae_turns.specs.Representing.{IsTaken}
use Rattle.ae_value_table.specs.Alike.{alike}

-- the literals that are assumed
abbrev pub assumed_of : Holding → List Lit
assumed_of o = literals (assumed_in o)

-- two names of the store of one sort; so neither is a predicate's application
pub record AreOfOneSort (s : Stored) (m n : ℕ) : Type 0 where
  pub sort : Sort
  pub left_within : m < length (terms_in s)
  pub right_within : n < length (terms_in s)
  pub left : sort_of s.signature (named (terms_in s) m) ≡ Some sort
  pub right : sort_of s.signature (named (terms_in s) n) ≡ Some sort

-- at any time names that are the same are equal by consequence of the equations that are assumed
abbrev pub SameIsConsequence : Type 0
SameIsConsequence = (o : Holding) (s : Stored) → IsTaken o s → (m n : ℕ) → AreOfOneSort s m n → IsTrue (alike o.values m n)
    → Conseq s.signature (Stated (assumed_of o)) (named (terms_in s) m) (named (terms_in s) n)

-- all names are plain
abbrev pub ArePlain : List Term → Type 0
ArePlain ts = (n : ℕ) (t : Term) → slice_get ts n ≡ Some t → is_plain t ≡ true

-- the steps state equations of plain terms
abbrev pub ArePlainSteps : List Term → List Step → Type 0
ArePlainSteps ts steps = (id : ℕ) (p : Step) → slice_get steps id ≡ Some p → (is_plain (side_term ts p.left) ≡ true) × (is_plain (side_term ts p.right) ≡ true)

-- where all names are plain, the steps that fit them do so
abbrev pub PlainNamesMakePlainSteps : Type 0
PlainNamesMakePlainSteps = (sig : Signature) (ts : List Term) (steps : List Step) → Fits sig ts steps → ArePlain ts → ArePlainSteps ts steps

-- where all names are plain, that follows by lines over plain terms alone
abbrev pub SameIsPlainConsequence : Type 0
SameIsPlainConsequence = (o : Holding) (s : Stored) → IsTaken o s → ArePlain (terms_in s) → (m n : ℕ) → AreOfOneSort s m n → IsTrue (alike o.values m n)
    → PlainConseq s.signature (Stated (assumed_of o)) (named (terms_in s) m) (named (terms_in s) n)

-- where nothing is left to do, names that are equal by consequence of them, by lines over plain terms alone, are the same
abbrev pub PlainConsequencesAreSame : Type 0
PlainConsequencesAreSame = (o : Holding) (s : Stored) → IsTaken o s → IsComplete o → AreWellSorted o → (m n : ℕ) → AreOfOneSort s m n
    → PlainConseq s.signature (Stated (assumed_of o)) (named (terms_in s) m) (named (terms_in s) n) → IsTrue (alike o.values m n)

-- the name of a predicate's application is the same as itself alone
abbrev pub PredicatesAreThemselvesAlone : Type 0
PredicatesAreThemselvesAlone = (o : Holding) (s : Stored) → IsTaken o s → (m n : ℕ) (t : Term) → slice_get (terms_in s) m ≡ Some t → IsPredicateName s.signature t → IsTrue (alike o.values m n) → m ≡ n
