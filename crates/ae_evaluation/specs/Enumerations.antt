-- Evaluation with constructors, in a saturated state.
use Rattle.std.specs.Prelude.{ℕ, List, [], ◌≡◌, Some}
use Rattle.std.specs.List.{AllByRecursion, Contains}
use Rattle.ae_core.specs.Sorts.{sort_of}
use Rattle.ae_core.specs.Signatures.{IsLawful}
use Rattle.ae_core.specs.declared.problems.Problem.{Problem}
use Rattle.ae_core.specs.declared.terms.Head.{Head}
use Rattle.ae_core.specs.declared.terms.Sort.{Sort, out-Sort}
use Rattle.ae_core.specs.declared.terms.Term.{Term, Apply}
use Rattle.ae_rules.specs.Derivations.{IsConstructor}
use Rattle.ae_rules.specs.Instances.{choices_of}
use Rattle.ae_journal.specs.Evaluate.{unassigned, value, with_constructors}
use Rattle.ae_journal.specs.Ground.{JoinsNoEnumeration, subterms}
use Rattle.ae_journal.specs.States.{IsSaturated}
use Rattle.ae_journal.specs.declared.systems.Saturated.{Saturated}

-- a term of an enumeration, in which no AC symbol is applied to terms of a sort that holds one, has the value of one of its constructors
abbrev pub TermsAreConstructors : Type 0
TermsAreConstructors =
    (p : Problem) (g bound : ℕ) (st : Saturated) → IsLawful p.signature → IsSaturated p g st bound
    → (t : Term) (s : Sort) (hs : List Head) → sort_of p.signature t ≡ Some s → choices_of p.signature (out-Sort s) ≡ Some hs
    → AllByRecursion (JoinsNoEnumeration p.signature []) (subterms t)
    → (h : Head) × Contains hs h ×
    (value p.signature st.system with_constructors unassigned t ≡ value p.signature st.system with_constructors unassigned (Apply h [] []))

-- constructors with one value are one constructor
abbrev pub ConstructorsDiffer : Type 0
ConstructorsDiffer =
    (p : Problem) (g bound : ℕ) (st : Saturated) → IsLawful p.signature → IsSaturated p g st bound
    → (h i : Head) → IsConstructor p.signature h → IsConstructor p.signature i
    → value p.signature st.system with_constructors unassigned (Apply h [] []) ≡ value p.signature st.system with_constructors unassigned
    (Apply i [] []) → h ≡ i
