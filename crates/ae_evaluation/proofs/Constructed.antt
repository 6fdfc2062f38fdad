-- In a saturated state each term of an enumeration has a constructor's value, and different constructors have different values.
use Rattle.std.specs.Prelude.{ℕ, true, List, [], ◌≡◌, Some}
use Rattle.std.specs.List.{AllByRecursion, Contains}
use mathlib.Core.Path.{sym, ◌∙◌}
use Rattle.ae_core.specs.Signatures.{IsLawful}
use Rattle.ae_core.specs.Sorts.{sort_of}
use Rattle.ae_core.specs.declared.problems.Problem.{Problem}
use Rattle.ae_core.specs.declared.terms.Head.{Head}
use Rattle.ae_core.specs.declared.terms.Sort.{Sort, out-Sort}
use Rattle.ae_core.specs.declared.terms.Term.{Term, Apply}
use Rattle.ae_rules.specs.Derivations.{IsConstructor}
use Rattle.ae_rules.specs.Instances.{choices_of}
use Rattle.ae_journal.specs.Evaluate.{reduced_by, unassigned, value}
use Rattle.ae_journal.specs.Evaluation.{constructor_value}
use Rattle.ae_journal.specs.Ground.{JoinsNoEnumeration, subterms}
use Rattle.ae_journal.specs.Inner.Numbering.{numbering}
use Rattle.ae_journal.specs.States.{IsSaturatedBy, Selection}
use Rattle.ae_journal.specs.Values.{Val}
use Rattle.ae_journal.specs.declared.systems.Saturated.{Saturated}
use Rattle.ae_evaluation.proofs.Constructors.{choices_are}
use Rattle.ae_evaluation.proofs.Exhausted.{chosen_value, constructor_evaluates, constructors_apart, exhausts}
use Rattle.ae_evaluation.proofs.Main.{no_assignment, nothing_assigned, value_shape}
use Rattle.ae_evaluation.proofs.Rules.{reduction}
use Rattle.ae_journal.proofs.Splits.{contains_at}

module _ (p : Problem) (g : ℕ) (st : Saturated) (takes : Selection) (bound : ℕ) (lawful : IsLawful p.signature)
    (saturated : IsSaturatedBy p g st takes bound) where
  abbrev V : Term → Val
  V = value p.signature st.system true unassigned

  constructor_term : (h : Head) → IsConstructor p.signature h
      → V (Apply h [] []) ≡ constructor_value p.signature st.system numbering (reduced_by st.system) true h
  constructor_term =
      constructor_evaluates p.signature lawful st.system numbering (reduced_by st.system) saturated.completed
      (reduction p.signature st.system saturated.completed)
      saturated.exhausted unassigned
      (value_shape p.signature st.system lawful saturated.completed true unassigned
      (no_assignment p.signature st.system lawful saturated.completed true))
      (λ n s v e. absurd (nothing_assigned n s v e))

  pub terms_are_constructors : (t : Term) (s : Sort) (hs : List Head) → sort_of p.signature t ≡ Some s
      → choices_of p.signature (out-Sort s) ≡ Some hs
      → AllByRecursion (JoinsNoEnumeration p.signature []) (subterms t) → (h : Head) × Contains hs h × (V t ≡ V (Apply h [] []))
  terms_are_constructors t s hs e f j =
      let x =
      exhausts p.signature lawful st.system numbering (reduced_by st.system) saturated.completed
      (reduction p.signature st.system saturated.completed)
      saturated.exhausted unassigned
      (value_shape p.signature st.system lawful saturated.completed true unassigned
      (no_assignment p.signature st.system lawful saturated.completed true))
      (λ n s v e. absurd (nothing_assigned n s v e)) t s e j in
      let w =
      chosen_value p.signature lawful st.system numbering (reduced_by st.system) saturated.completed
      (reduction p.signature st.system saturated.completed) s (V t) x hs f in
      (w.0, contains_at hs w.1 w.0 w.2, sym w.3 ∙ sym (constructor_term w.0 (choices_are p.signature lawful s hs w.1 w.0 f w.2)))

  pub constructors_differ : (h i : Head) → IsConstructor p.signature h → IsConstructor p.signature i → V (Apply h [] []) ≡ V (Apply i [] [])
      → h ≡ i
  constructors_differ h i c d e =
      constructors_apart p.signature lawful st.system numbering (reduced_by st.system) saturated.completed
      (reduction p.signature st.system saturated.completed)
      saturated.constructors h i c d (sym (constructor_term h c) ∙ e ∙ constructor_term i d)
