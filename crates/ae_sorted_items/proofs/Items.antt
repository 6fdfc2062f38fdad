-- The axioms without type variables and the goals of a lawful problem are closed and well sorted.
use Rattle.std.specs.Prelude.{ℕ, true, false, nat_eq, nat_lt, List, [], ◌≡◌, map, slice_get, Some, None}
use Rattle.std.specs.List.{AllByRecursion}
use Rattle.std.proofs.Common.{refl, sym, ap, ◌∙◌, subst, arith}
use Rattle.std.proofs.lemmas.Bool.{eqb-true, ltb-true}
use Rattle.std.proofs.lemmas.Option.{same_Some}
use Rattle.ae_base.specs.Options.{only}
use Rattle.ae_base.proofs.AllOf.{all_always, all_at, map_same}
use Rattle.ae_base.proofs.Options.{bind_some, never_some, only_some, when_some}
use Rattle.ae_core.specs.Inner.Induction.{by_sorts, by_terms, by_formulas}
use Rattle.ae_core.specs.Putting.{put_sort, instance, instance_quant, instance_term}
use Rattle.ae_core.specs.Signatures.{is_sort_over, IsLawfulItem, IsLawfulProblem}
use Rattle.ae_core.specs.Sorts.{sort_ok, is_closed_sort, formula_ok}
use Rattle.ae_core.specs.declared.formulas.Formula.{Formula, Eq, Lt, Le, Pred, Not, And, Or, Xor, Iff, All, Ex}
use Rattle.ae_core.specs.declared.problems.Item.{Item}
use Rattle.ae_core.specs.declared.problems.Item.TheVariants.{Axiom, Goal as GoalItem}
use Rattle.ae_core.specs.declared.problems.Problem.{Problem}
use Rattle.ae_core.specs.declared.terms.Sort.{Sort, Named}
use Rattle.ae_core.specs.declared.terms.Term.{Term, Fresh, Apply}
use Rattle.ae_core.proofs.PutSorts.{map_identity}
use Rattle.ae_core.proofs.PuttingLaws.{put_var, put_rigid, put_int, put_real, put_bool, put_unit, put_named, instance_bound, instance_num, instance_fresh, instance_apply}
use Rattle.ae_core.proofs.PuttingLaws.{instance_true, instance_false, instance_eq, instance_lt, instance_le, instance_pred, instance_not, instance_and, instance_or, instance_xor, instance_iff, instance_all, instance_ex, instance_block}
use Rattle.ae_rules.specs.Derivations.{goal_body}
use Rattle.ae_rules.specs.Instances.{axiom_with, hypothesis}
use Rattle.ae_sorted_items.proofs.Wider.{sort_wider, formula_wider}

-- ---- where no sorts are put, nothing changes
all_same : {X : Type 0} (f : X → X) (xs : List X) → AllByRecursion (λ x. f x ≡ x) xs → map f xs ≡ xs
all_same f xs a = map_same f (λ x. x) xs a ∙ sym (map_identity xs)

same_sort : (s : Sort) → put_sort [] s ≡ s
same_sort =
    by_sorts (λ s. put_sort [] s ≡ s) (λ i. put_var [] i) (λ i. put_rigid [] i) (put_int []) (put_real []) (put_bool []) (put_unit [])
    (λ h ss a. put_named [] h ss ∙ ap (Named h) (all_same (put_sort []) ss a))

same_sorts : (ss : List Sort) → map (put_sort []) ss ≡ ss
same_sorts ss = all_same (put_sort []) ss (all_always (λ s. put_sort [] s ≡ s) same_sort ss)

same_term : (t : Term) → instance_term [] t ≡ t
same_term =
    by_terms (λ t. instance_term [] t ≡ t) (λ i. instance_bound [] i) (λ a b r. instance_num [] a b r)
    (λ n s. instance_fresh [] n s ∙ ap (Fresh n) (same_sort s))
    (λ h ss us a. instance_apply [] h ss us ∙ (λ i. Apply h (same_sorts ss i) (all_same (instance_term []) us a i)))

same_terms : (ts : List Term) → map (instance_term []) ts ≡ ts
same_terms ts = all_same (instance_term []) ts (all_always (λ t. instance_term [] t ≡ t) same_term ts)

same_triggers : (ts : List (List Term)) → map (map (instance_term [])) ts ≡ ts
same_triggers ts = all_same (map (instance_term [])) ts (all_always (λ us. map (instance_term []) us ≡ us) same_terms ts)

same_formula : (f : Formula) → instance [] f ≡ f
same_formula =
    by_formulas (λ f. instance [] f ≡ f) (λ q. instance_quant [] q ≡ q)
    (instance_true [])
    (instance_false [])
    (λ a b. instance_eq [] a b ∙ (λ i. Eq (same_term a i) (same_term b i)))
    (λ a b. instance_lt [] a b ∙ (λ i. Lt (same_term a i) (same_term b i)))
    (λ a b. instance_le [] a b ∙ (λ i. Le (same_term a i) (same_term b i)))
    (λ p ss us. instance_pred [] p ss us ∙ (λ i. Pred p (same_sorts ss i) (same_terms us i)))
    (λ a h. instance_not [] a ∙ ap Not h)
    (λ a b h k. instance_and [] a b ∙ (λ i. And (h i) (k i)))
    (λ a b h k. instance_or [] a b ∙ (λ i. Or (h i) (k i)))
    (λ a b h k. instance_xor [] a b ∙ (λ i. Xor (h i) (k i)))
    (λ a b h k. instance_iff [] a b ∙ (λ i. Iff (h i) (k i)))
    (λ q h. instance_all [] q ∙ ap All h)
    (λ q h. instance_ex [] q ∙ ap Ex h)
    (λ q h. instance_block [] q ∙ (λ i. record { sorts = same_sorts q.sorts i; triggers = same_triggers q.triggers i; body = h i }))

-- ---- the formulas of items
module _ (p : Problem) (lawful : IsLawfulProblem p) where
  no_variable : (i : ℕ) → nat_lt i 0 ≡ true → false ≡ true
  no_variable i e = absurd (let l = ltb-true i 0 e in omega (arith, l))

  axiom_ok : (n : List ℕ) (v : ℕ) (f h : Formula) → IsLawfulItem p.signature (Axiom n v f) → axiom_with v f [] ≡ Some h → formula_ok p.signature h ≡ true
  axiom_ok n v f h l e =
      let w = when_some (nat_eq 0 v) (instance [] f) h e in
      let none : v ≡ 0 = sym (eqb-true 0 v w.0) in
      ap (formula_ok p.signature) (sym w.1 ∙ same_formula f)
      ∙ formula_wider p.signature (is_sort_over p.signature v) (is_closed_sort p.signature)
      (λ s o. sort_wider p.signature (λ i. nat_lt i 0) (λ i. false) (λ i. false) (λ i. true) no_variable (λ i e. refl) s (subst (λ k. is_sort_over p.signature k s ≡ true) none o))
      f [] l.0

  pub hypothesis_ok : (g k : ℕ) (f : Formula) → hypothesis p g k [] ≡ Some f → formula_ok p.signature f ≡ true
  hypothesis_ok g k f e =
      let b = bind_some (only (nat_lt k g) (slice_get p.items k)) (λ (i : Item). elim i [ Axiom n v f ↦ axiom_with v f [] | GoalItem n v f ↦ None ]) f e in
      let at = only_some (nat_lt k g) (slice_get p.items k) b.0 b.1 in
      by_item b.0 (all_at (IsLawfulItem p.signature) p.items k b.0 lawful.items at.1) b.2
    where
      by_item : (i : Item) → IsLawfulItem p.signature i → elim i [ Axiom n v f ↦ axiom_with v f [] | GoalItem n v f ↦ None ] ≡ Some f → formula_ok p.signature f ≡ true
      by_item (Axiom n v h) l e = axiom_ok n v h f l e
      by_item (GoalItem n v h) l e = never_some f e

  pub goal_ok : (g : ℕ) (f : Formula) → goal_body p g ≡ Some f → formula_ok p.signature f ≡ true
  goal_ok g f e =
      let b = bind_some (slice_get p.items g) (λ (i : Item). elim i [ Axiom n v f ↦ None | GoalItem n v f ↦ Some f ]) f e in
      by_item b.0 (all_at (IsLawfulItem p.signature) p.items g b.0 lawful.items b.1) b.2
    where
      by_item : (i : Item) → IsLawfulItem p.signature i → elim i [ Axiom n v f ↦ None | GoalItem n v f ↦ Some f ] ≡ Some f → formula_ok p.signature f ≡ true
      by_item (Axiom n v h) l e = never_some f e
      by_item (GoalItem n rigid h) l e =
          ap (formula_ok p.signature) (sym (same_Some h f e))
          ∙ formula_wider p.signature (sort_ok p.signature (λ i. false) (λ i. nat_lt i rigid)) (is_closed_sort p.signature)
          (λ s o. sort_wider p.signature (λ i. false) (λ i. nat_lt i rigid) (λ i. false) (λ i. true) (λ i e. e) (λ i e. refl) s o)
          h [] l.0
