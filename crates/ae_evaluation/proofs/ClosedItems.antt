-- No fresh constant stands in the hypotheses and the goal of a lawful problem.
use Rattle.std.specs.Prelude.{ℕ, true, ◌&&◌, List, [], ◌∷◌, ◌++◌, ◌≡◌, map, nat_eq, nat_lt, slice_get, Option, Some, None}
use Rattle.ae_base.proofs.ListFacts.{empty_parts}
use Rattle.std.specs.List.{AllByRecursion, flat_map}
use mathlib.Core.Path.{refl, sym, ap, ◌∙◌}
use Rattle.ae_core.specs.Putting.{put_sort, instance, instance_term}
use Rattle.ae_base.specs.Options.{only}
use Rattle.ae_core.specs.Constants.{constants, formula_constants}
use Rattle.ae_core.specs.Inner.Induction.{by_terms, by_formulas}
use Rattle.ae_core.specs.Signatures.{IsLawfulProblem, IsLawfulItem}
use Rattle.ae_core.proofs.PuttingLaws.{instance_bound, instance_num, instance_apply, instance_true, instance_false, instance_eq, instance_lt, instance_le}
use Rattle.ae_core.proofs.PuttingLaws.{instance_pred, instance_not, instance_and, instance_or, instance_xor, instance_iff, instance_all, instance_ex}
use Rattle.ae_core.specs.declared.formulas.Formula.{Formula}
use Rattle.ae_core.specs.declared.problems.Item.{Item}
use Rattle.ae_core.specs.declared.problems.Item.TheVariants.{Axiom, Goal}
use Rattle.ae_core.specs.declared.problems.Problem.{Problem}
use Rattle.ae_core.specs.declared.terms.Sort.{Sort}
use Rattle.ae_core.specs.declared.terms.Term.{Term, Fresh}
use Rattle.ae_rules.specs.Derivations.{goal_body}
use Rattle.ae_rules.specs.Instances.{hypothesis, axiom_with}
use Rattle.ae_journal.specs.Ground.{IsGround, is_simple}
use Rattle.ae_evaluation.proofs.Literals.{simple-Not, simple-And, simple-Or, simple-Xor, simple-Iff, lt_not_simple, le_not_simple, all_not_simple, ex_not_simple}
use Rattle.ae_evaluation.proofs.PutTruth.{constants-Eq, constants-Pred, constants-Not, constants-And, constants-Or, constants-Xor, constants-Iff, constants-True, constants-False}
use Rattle.ae_evaluation.proofs.Substitution.{constants-Apply, constants-Bound, constants-Num, constants-Fresh}
use Rattle.ae_base.proofs.AllOf.{all_at}
use Rattle.ae_base.proofs.Options.{bind_some, only_some, when_some}
use Rattle.std.proofs.lemmas.Bool.{and_parts}
use Rattle.std.proofs.lemmas.Option.{same_Some}

pub record HasNoConstants (p : Problem) (g : ℕ) : Type 0 where
  pub hypotheses : (k : ℕ) (f : Formula) → hypothesis p g k [] ≡ Some f → formula_constants f ≡ []
  pub goal : (f : Formula) → goal_body p g ≡ Some f → formula_constants f ≡ []

module _ (ss : List Sort) where
  -- sorts put for type variables bring no constant
  abbrev TermStays : Term → Type 0
  TermStays t = constants t ≡ [] → constants (instance_term ss t) ≡ []

  terms_stay : (us : List Term) → AllByRecursion TermStays us → flat_map (λ u. u) (map constants us) ≡ []
      → flat_map (λ u. u) (map constants (map (instance_term ss) us)) ≡ []
  terms_stay [] a e = refl
  terms_stay (u ∷ us) a e =
      let d = empty_parts (constants u) (flat_map (λ u. u) (map constants us)) e in λ i. a.0 d.0 i ++ terms_stay us a.1 d.1 i

  term_stays : (t : Term) → TermStays t
  term_stays =
      by_terms TermStays (λ i e. ap constants (instance_bound ss i) ∙ constants-Bound i)
      (λ a b r e. ap constants (instance_num ss a b r) ∙ constants-Num a b r)
      (λ n s e. let z : Fresh n s ∷ [] ≡ [] = sym (constants-Fresh n s) ∙ e in absurd (cc))
      (λ h os us a e. ap constants (instance_apply ss h os us) ∙ constants-Apply h (map (put_sort ss) os) (map (instance_term ss) us)
      ∙ terms_stay us a (sym (constants-Apply h os us) ∙ e))

  arguments_stay : (us : List Term) → flat_map constants us ≡ [] → flat_map constants (map (instance_term ss) us) ≡ []
  arguments_stay [] e = refl
  arguments_stay (u ∷ us) e =
      let d = empty_parts (constants u) (flat_map constants us) e in λ i. term_stays u d.0 i ++ arguments_stay us d.1 i

  abbrev Stays : Formula → Type 0
  Stays f = is_simple (instance ss f) ≡ true → formula_constants f ≡ [] → formula_constants (instance ss f) ≡ []

  both_stay : (a b : Formula) → Stays a → Stays b → is_simple (instance ss a) && is_simple (instance ss b) ≡ true
      → formula_constants a ++ formula_constants b ≡ []
      → formula_constants (instance ss a) ++ formula_constants (instance ss b) ≡ []
  both_stay a b h k i c =
      let s = and_parts (is_simple (instance ss a)) (is_simple (instance ss b)) i in
      let d = empty_parts (formula_constants a) (formula_constants b) c in
      λ j. h s.0 d.0 j ++ k s.1 d.1 j

  formula_stays : (f : Formula) → Stays f
  formula_stays =
      by_formulas Stays (λ q. Unit {0})
      (λ i c. ap formula_constants (instance_true ss) ∙ constants-True) (λ i c. ap formula_constants (instance_false ss) ∙ constants-False)
      (λ a b i c.
      let d = empty_parts (constants a) (constants b) (sym (constants-Eq a b) ∙ c) in
      ap formula_constants (instance_eq ss a b) ∙ constants-Eq (instance_term ss a) (instance_term ss b) ∙
      (λ j. term_stays a d.0 j ++ term_stays b d.1 j))
      (λ a b i. absurd (lt_not_simple (instance_term ss a) (instance_term ss b) (ap is_simple (sym (instance_lt ss a b)) ∙ i)))
      (λ a b i. absurd (le_not_simple (instance_term ss a) (instance_term ss b) (ap is_simple (sym (instance_le ss a b)) ∙ i)))
      (λ p os us i c. ap formula_constants (instance_pred ss p os us) ∙ constants-Pred p (map (put_sort ss) os) (map (instance_term ss) us)
      ∙ arguments_stay us (sym (constants-Pred p os us) ∙ c))
      (λ a h i c. ap formula_constants (instance_not ss a) ∙ constants-Not (instance ss a) ∙ h
      (sym (simple-Not (instance ss a)) ∙ ap is_simple (sym (instance_not ss a)) ∙ i) (sym (constants-Not a) ∙ c))
      (λ a b h k i c. ap formula_constants (instance_and ss a b) ∙ constants-And (instance ss a) (instance ss b)
      ∙ both_stay a b h k (sym (simple-And (instance ss a) (instance ss b)) ∙ ap is_simple (sym (instance_and ss a b)) ∙ i)
      (sym (constants-And a b) ∙ c))
      (λ a b h k i c. ap formula_constants (instance_or ss a b) ∙ constants-Or (instance ss a) (instance ss b)
      ∙ both_stay a b h k (sym (simple-Or (instance ss a) (instance ss b)) ∙ ap is_simple (sym (instance_or ss a b)) ∙ i)
      (sym (constants-Or a b) ∙ c))
      (λ a b h k i c. ap formula_constants (instance_xor ss a b) ∙ constants-Xor (instance ss a) (instance ss b)
      ∙ both_stay a b h k (sym (simple-Xor (instance ss a) (instance ss b)) ∙ ap is_simple (sym (instance_xor ss a b)) ∙ i)
      (sym (constants-Xor a b) ∙ c))
      (λ a b h k i c. ap formula_constants (instance_iff ss a b) ∙ constants-Iff (instance ss a) (instance ss b)
      ∙ both_stay a b h k (sym (simple-Iff (instance ss a) (instance ss b)) ∙ ap is_simple (sym (instance_iff ss a b)) ∙ i)
      (sym (constants-Iff a b) ∙ c))
      (λ q h i. absurd (all_not_simple _ (ap is_simple (sym (instance_all ss q)) ∙ i)))
      (λ q h i. absurd (ex_not_simple _ (ap is_simple (sym (instance_ex ss q)) ∙ i))) (λ q h. tt)

body_of : Item → Formula
body_of (Axiom n v f) = f
body_of (Goal n v f) = f

module _ (p : Problem) (g : ℕ) (lawful : IsLawfulProblem p) (ground : IsGround p g) where
  item_constants : (k : ℕ) (i : Item) → slice_get p.items k ≡ Some i → formula_constants (body_of i) ≡ []
  unfolding body_of
  item_constants k i e = by_item i (all_at (IsLawfulItem p.signature) p.items k i lawful.items e)
    where
      by_item : (i : Item) → IsLawfulItem p.signature i → formula_constants (body_of i) ≡ []
      by_item (Axiom n v f) l = l.2
      by_item (Goal n v f) l = l.2

  pub closed_items : HasNoConstants p g
  unfolding body_of
  closed_items = record { hypotheses = hypotheses; goal = goal_case }
    where
      hypotheses : (k : ℕ) (f : Formula) → hypothesis p g k [] ≡ Some f → formula_constants f ≡ []
      hypotheses k f e =
          let b =
          bind_some (only (nat_lt k g) (slice_get p.items k))
          (λ i. elim i as (λ _. Option Formula) [ Axiom n v f ↦ axiom_with v f [] | Goal n v f ↦ None ]) f e in
          let o = only_some (nat_lt k g) (slice_get p.items k) b.0 b.1 in
          by_item b.0 (item_constants k b.0 o.1) b.2
        where
          by_item : (i : Item) → formula_constants (body_of i) ≡ []
              → elim i as (λ _. Option Formula) [ Axiom n v f ↦ axiom_with v f [] | Goal n v f ↦ None ] ≡ Some f → formula_constants f ≡ []
          by_item (Axiom n v h) c w =
              let z = (when_some (nat_eq 0 v) (instance [] h) f w).1 in
              sym (ap formula_constants z) ∙ formula_stays [] h (ap is_simple z ∙ (ground.hypotheses k f e).simple) c
          by_item (Goal n v h) c w = absurd (cc)

      goal_case : (f : Formula) → goal_body p g ≡ Some f → formula_constants f ≡ []
      goal_case f e =
          let b = bind_some (slice_get p.items g) (λ i. elim i as (λ _. Option Formula) [ Axiom n v f ↦ None | Goal n v f ↦ Some f ]) f e in
          by_item b.0 (item_constants g b.0 b.1) b.2
        where
          by_item : (i : Item) → formula_constants (body_of i) ≡ []
              → elim i as (λ _. Option Formula) [ Axiom n v f ↦ None | Goal n v f ↦ Some f ] ≡ Some f → formula_constants f ≡ []
          by_item (Axiom n v h) c w = absurd (cc)
          by_item (Goal n v h) c w = sym (ap formula_constants (same_Some h f w)) ∙ c
