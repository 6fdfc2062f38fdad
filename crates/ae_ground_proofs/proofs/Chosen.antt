-- The names that a search begins with once constructors are named: each occurs in the goal, or is a constructor of the sort of a term that occurs.
use Rattle.std.specs.Prelude.{ℕ, ◌≤◌, List, [], ◌∷◌, ◌≡◌, ◌⊎◌, length, count_by, Some}
use Rattle.std.specs.List.{Contains}
use Rattle.std.proofs.Common.{sym, ◌∙◌, subst, inl, inr}
use Rattle.ae_base.specs.Options.{known}
use Rattle.ae_core.specs.Signatures.{IsLawful}
use Rattle.ae_core.specs.Sorts.{sort_of}
use Rattle.ae_core.specs.declared.terms.Sort.{Sort}
use Rattle.ae_core.specs.declared.terms.Term.{Term, Apply}
use Rattle.ae_core.specs.declared.terms.Head.{Head}
use Rattle.ae_core.specs.declared.problems.Signature.{Signature}
use Rattle.ae_core.specs.declared.problems.Problem.{Problem}
use Rattle.ae_core.specs.declared.proofs.ClauseLine.{ClauseLine}
use Rattle.ae_rules.specs.Clauses.{Clause}
use Rattle.ae_journal.specs.Ground.{IsGround, HoldsEnumeration, itself as holds_itself}
use Rattle.ae_journal.specs.Systems.{IsJoin}
use Rattle.ae_journal.proofs.Splits.{contains_here, contains_one}
use Rattle.ae_store.specs.Stores.{Stored}
use Rattle.ae_store.specs.Terms.{HasOneName}
use Rattle.ae_theory.specs.Names.{terms_in}
use Rattle.ae_reach.specs.Budget.{Occurs, HasNoSymbols, HasNoEnumerations, HoldsTerms}
use Rattle.ae_reach.specs.Reach.{IsInReach}
use Rattle.ae_open_states.specs.Choices.{IsChoiceOf}
use Rattle.ae_goal_names.specs.Named.{HasNamed, all_terms}
use Rattle.ae_first_clauses.specs.First.{AreFirst}
use Rattle.ae_choice_clauses.specs.Choices.{AddsChoices}
use Rattle.ae_ground_laws.specs.Terms.{IsGroundName, AreGroundNames}
use Rattle.ae_ground_laws.proofs.Chosen.{choice_ground}
use Rattle.ae_ground_laws.proofs.Counted.{occurring_no_joins, occurring_at_most}
use Rattle.ae_ground_laws.proofs.OccurringTerms.{occurs_ground}
use Rattle.ae_ground_laws.proofs.Subterms.{same_arguments}
use Rattle.ae_ground_proofs.proofs.Occurring.{name_occurs, first_signature}

module _ (p : Problem) (g : ℕ) (firsts : List ClauseLine) (first : List Clause) (begun : AreFirst p g firsts first) (old before : Stored) (same : old.signature ≡ p.signature) (empty : terms_in old ≡ [])
    (n : HasNamed old before (all_terms first)) where
  pub first_occurs : (t : Term) → Contains (terms_in before) t → Occurs p g t
  first_occurs t h = name_occurs p g firsts first begun old before same empty n t h

  pub before_ground : IsLawful p.signature → IsInReach p g → IsGround p g → AreGroundNames p.signature (terms_in before)
  before_ground law reach ground t h = occurs_ground p g law reach ground t (first_occurs t h)

  module _ (s : Stored) (lines : List ClauseLine) (clauses : List Clause) (adds : AddsChoices p g before s firsts lines first clauses) where
    -- ---- what the names are
    abbrev pub OccursOrIsChoice : Term → Type 0
    OccursOrIsChoice t = Occurs p g t ⊎ ((u : Term) × Occurs p g u × IsChoiceOf p.signature u t)

    pub occurs_or_is_choice : (t : Term) → Contains (terms_in s) t → OccursOrIsChoice t
    occurs_or_is_choice t h = elim (adds.only t h) as (λ _. OccursOrIsChoice t) [
      | inl o ↦ inl (first_occurs t o)
      | inr w ↦ inr (w.0, first_occurs w.0 w.1, w.2)
    ]

    pub own_signature : s.signature ≡ p.signature
    own_signature = adds.signature ∙ first_signature p g firsts first begun old before same empty n

    -- ---- of a goal of the ground fragment
    module _ (law : IsLawful p.signature) where
      pub names_ground : IsInReach p g → IsGround p g → AreGroundNames p.signature (terms_in s)
      names_ground reach ground t h = elim (occurs_or_is_choice t h) as (λ _. IsGroundName p.signature t) [
        | inl o ↦ occurs_ground p g law reach ground t o
        | inr w ↦ (let c = w.2 in subst (IsGroundName p.signature) (sym c.is) (choice_ground p.signature law w.0 c.sort c.heads c.head c.sorted c.choices c.one))
      ]

    -- ---- no name joins terms
    occurring_joins_none : IsGround p g → HasNoSymbols p g → (h : Head) (ss : List Sort) (a b : Term) → Occurs p g (Apply h ss (a ∷ b ∷ [])) → ¬ (IsJoin p.signature h a b)
    occurring_joins_none ground none h ss a b o =
        let x = Apply h ss (a ∷ b ∷ []) in
        occurring_no_joins p g (x ∷ []) ground none (λ t c. subst (Occurs p g) (contains_one x t c) o) h ss a b (contains_here x [])

    -- a constructor has no arguments
    not_two : {P : Type 0} (h : Head) (ss : List Sort) (a b : Term) (u : Term) → IsChoiceOf p.signature u (Apply h ss (a ∷ b ∷ [])) → P
    not_two h ss a b u c = absurd (let z : a ∷ b ∷ [] ≡ [] = same_arguments h c.head ss [] (a ∷ b ∷ []) [] c.is in cc)

    pub no_joins : IsGround p g → HasNoSymbols p g → (h : Head) (ss : List Sort) (a b : Term) → Contains (terms_in s) (Apply h ss (a ∷ b ∷ [])) → ¬ (IsJoin s.signature h a b)
    no_joins ground none h ss a b c =
        subst (λ (sig : Signature). ¬ (IsJoin sig h a b)) (sym own_signature)
        (elim (occurs_or_is_choice (Apply h ss (a ∷ b ∷ [])) c) as (λ _. ¬ (IsJoin p.signature h a b)) [
          | inl o ↦ occurring_joins_none ground none h ss a b o
          | inr w ↦ not_two h ss a b w.0 w.2
        ])

    -- ---- where no term of an enumeration occurs
    no_choice : {P : Type 0} (u : Term) (o : Sort) → HasNoEnumerations p g → Occurs p g u → sort_of p.signature u ≡ Some o → (HoldsEnumeration p.signature o) → P
    no_choice u o none occurs so h = absurd (none u o occurs so h)

    all_occur : HasNoEnumerations p g → (t : Term) → Contains (terms_in s) t → Occurs p g t
    all_occur none t h = elim (occurs_or_is_choice t h) as (λ _. Occurs p g t) [
      | inl o ↦ o
      | inr w ↦ (let c = w.2 in no_choice w.0 c.sort none w.1 c.sorted (holds_itself c.sort c.heads c.choices))
    ]

    pub at_most : HasNoEnumerations p g → HasOneName (terms_in s) → (us : List Term) → HoldsTerms p g us → count_by (λ t. known (sort_of s.signature t)) (terms_in s) ≤ length us
    at_most none once us holds =
        subst (λ (sig : Signature). count_by (λ t. known (sort_of sig t)) (terms_in s) ≤ length us) (sym own_signature) (occurring_at_most p g (terms_in s) us once (all_occur none) holds)
