-- Goals in the reach, their hypotheses, and that what is computed says which they are.
use Rattle.std.specs.Prelude.{ℕ, ◌<◌, true, ◌&&◌, nat_eq, nat_lt, List, [], ◌∷◌, ◌≡◌, ◌↔◌, map, slice_get, Option, Some, None}
use Rattle.std.specs.List.{AllByRecursion}
use Rattle.std.proofs.Common.{refl, sym, ap, ◌∙◌, subst, arith, inl, inr}
use Rattle.std.proofs.lemmas.Option.{same_Some}
use Rattle.std.proofs.lemmas.Bool.Decides.{nat_tests}
use Rattle.ae_base.specs.Options.{◌>>=◌, only}
use Rattle.ae_base.proofs.Options.{never_some, bind_some, only_some, when_some}
use Rattle.ae_base.proofs.Tests.{three_parts}
use Rattle.ae_base.proofs.AllOf.{all_at}
use Rattle.ae_core.specs.Inner.Induction.{by_sorts, by_terms, by_formulas}
use Rattle.ae_core.specs.Putting.{put_sort, instance, instance_term, instance_quant}
use Rattle.ae_core.specs.Sorts.{formula_ok}
use Rattle.ae_core.specs.Signatures.{IsLawfulItem, IsLawfulProblem}
use Rattle.ae_core.proofs.PuttingLaws.{put_var, put_rigid, put_int, put_real, put_bool, put_unit, put_named, instance_bound, instance_num, instance_fresh, instance_apply, instance_true, instance_false, instance_eq, instance_lt, instance_le}
use Rattle.ae_core.proofs.PuttingLaws.{instance_pred, instance_not, instance_and, instance_or, instance_xor, instance_iff, instance_all, instance_ex, instance_block}
use Rattle.ae_core.specs.declared.terms.Sort.{Sort, Named}
use Rattle.ae_core.specs.declared.terms.Term.{Term, Fresh, Apply}
use Rattle.ae_core.specs.declared.formulas.Formula.{Formula, Formula-F, Eq, Lt, Le, Pred, Not, And, Or, Xor, Iff, All, Ex, out-Formula, roll-Formula, roll-out-Formula}
use Rattle.ae_core.specs.declared.formulas.Formula.TheOpen as layer
use Rattle.ae_core.specs.declared.formulas.Formula.TheVariants.{outs-All, rolls-All}
use Rattle.ae_core.specs.declared.formulas.Quant.{Quant, roll-out-Quant}
use Rattle.ae_core.specs.declared.problems.Signature.{Signature}
use Rattle.ae_core.specs.declared.problems.Problem.{Problem}
use Rattle.ae_core.specs.declared.problems.Item.{Item}
use Rattle.ae_core.specs.declared.problems.Item.TheVariants.{Axiom, Goal}
use Rattle.ae_rules.specs.Instances.{hypothesis, axiom_with, count_from}
use Rattle.ae_rules.specs.Derivations.{goal_body}
use Rattle.ae_journal.specs.Ground.{is_simple}
use Rattle.ae_evaluation.proofs.Literals.{all_not_simple}
use Rattle.ae_reach.specs.Reach.{IsGoalInReach, plain, block, IsInReach}
use Rattle.ae_reach.proofs.Blocks.{goal_cases}
use Rattle.ae_reach.proofs.Simple.{simple_put}
use Rattle.ae_reach_checks.specs.Decisions.{goal_layer, goal_reached, AreItemsReached, AreReached}

-- ---- no sorts put change nothing
sort_kept : (s : Sort) → put_sort [] s ≡ s
sort_kept =
    by_sorts (λ s. put_sort [] s ≡ s) (put_var []) (put_rigid []) (put_int []) (put_real []) (put_bool []) (put_unit [])
    (λ h ss a. put_named [] h ss ∙ ap (Named h) (kept ss a))
  where
    kept : (ss : List Sort) → AllByRecursion (λ s. put_sort [] s ≡ s) ss → map (put_sort []) ss ≡ ss
    kept [] a = refl
    kept (s ∷ ss) a = λ i. a.0 i ∷ kept ss a.1 i

sorts_kept : (ss : List Sort) → map (put_sort []) ss ≡ ss
sorts_kept [] = refl
sorts_kept (s ∷ ss) = λ i. sort_kept s i ∷ sorts_kept ss i

term_kept : (t : Term) → instance_term [] t ≡ t
term_kept =
    by_terms (λ t. instance_term [] t ≡ t) (instance_bound []) (instance_num [])
    (λ n s. instance_fresh [] n s ∙ ap (Fresh n) (sort_kept s))
    (λ h ss ts a. instance_apply [] h ss ts ∙ (λ i. Apply h (sorts_kept ss i) (kept ts a i)))
  where
    kept : (ts : List Term) → AllByRecursion (λ t. instance_term [] t ≡ t) ts → map (instance_term []) ts ≡ ts
    kept [] a = refl
    kept (t ∷ ts) a = λ i. a.0 i ∷ kept ts a.1 i

terms_kept : (ts : List Term) → map (instance_term []) ts ≡ ts
terms_kept [] = refl
terms_kept (t ∷ ts) = λ i. term_kept t i ∷ terms_kept ts i

triggers_kept : (tss : List (List Term)) → map (map (instance_term [])) tss ≡ tss
triggers_kept [] = refl
triggers_kept (ts ∷ tss) = λ i. terms_kept ts i ∷ triggers_kept tss i

formula_kept : (f : Formula) → instance [] f ≡ f
formula_kept =
    by_formulas (λ f. instance [] f ≡ f) (λ q. instance_quant [] q ≡ q)
    (instance_true []) (instance_false [])
    (λ a b. instance_eq [] a b ∙ (λ i. Eq (term_kept a i) (term_kept b i)))
    (λ a b. instance_lt [] a b ∙ (λ i. Lt (term_kept a i) (term_kept b i)))
    (λ a b. instance_le [] a b ∙ (λ i. Le (term_kept a i) (term_kept b i)))
    (λ p ss us. instance_pred [] p ss us ∙ (λ i. Pred p (sorts_kept ss i) (terms_kept us i)))
    (λ a h. instance_not [] a ∙ ap Not h)
    (λ a b h k. instance_and [] a b ∙ (λ i. And (h i) (k i)))
    (λ a b h k. instance_or [] a b ∙ (λ i. Or (h i) (k i)))
    (λ a b h k. instance_xor [] a b ∙ (λ i. Xor (h i) (k i)))
    (λ a b h k. instance_iff [] a b ∙ (λ i. Iff (h i) (k i)))
    (λ q h. instance_all [] q ∙ ap All h)
    (λ q h. instance_ex [] q ∙ ap Ex h)
    block_kept
  where
    block_kept : (q : Quant) → instance [] q.body ≡ q.body → instance_quant [] q ≡ q
    block_kept q h =
        instance_block [] q
        ∙ (λ i. record { sorts = sorts_kept q.sorts i; triggers = triggers_kept q.triggers i; body = h i })
        ∙ roll-out-Quant q

-- ---- what the items say
pub record IsHypothesis (p : Problem) (g k : ℕ) (f : Formula) : Type 0 where
  pub name : List ℕ
  pub vars : ℕ
  pub below : k < g
  pub at : slice_get p.items k ≡ Some (Axiom name vars f)

module _ (p : Problem) (g : ℕ) where
  pub hypothesis_by : (k : ℕ) (f : Formula) → hypothesis p g k [] ≡ Some f → IsHypothesis p g k f
  hypothesis_by k f e =
      let b = bind_some (only (nat_lt k g) (slice_get p.items k)) (λ i. elim i as (λ _. Option Formula) [ Axiom n v f ↦ axiom_with v f [] | Goal n v f ↦ None ]) f e in
      let o = only_some (nat_lt k g) (slice_get p.items k) b.0 b.1 in
      by_item b.0 o.1 b.2 (let t = o.0 in grind (arith, nat_tests, t))
    where
      by_item : (i : Item) → slice_get p.items k ≡ Some i → elim i as (λ _. Option Formula) [ Axiom n v f ↦ axiom_with v f [] | Goal n v f ↦ None ] ≡ Some f → k < g
          → IsHypothesis p g k f
      by_item (Axiom n v h) at w l =
          let z = (when_some (nat_eq 0 v) (instance [] h) f w).1 in
          record { name = n; vars = v; below = l; at = at ∙ ap (λ (x : Formula). Some (Axiom n v x)) (sym (formula_kept h) ∙ z) }
      by_item (Goal n v h) at w l = never_some f w

  is_hypothesis : (k : ℕ) (n : List ℕ) (f : Formula) → k < g → slice_get p.items k ≡ Some (Axiom n 0 f) → hypothesis p g k [] ≡ Some f
  is_hypothesis k n f l at =
      let t : nat_lt k g ≡ true = grind (arith, nat_tests, l) in
      ap (λ (o : Option Item). only (nat_lt k g) o >>= λ i. elim i as (λ _. Option Formula) [ Axiom n v f ↦ axiom_with v f [] | Goal n v f ↦ None ]) at
      ∙ ap (λ b. only b (Some (Axiom n 0 f)) >>= λ i. elim i as (λ _. Option Formula) [ Axiom n v f ↦ axiom_with v f [] | Goal n v f ↦ None ]) t
      ∙ ap (λ (x : Formula). Some x) (formula_kept f)

  body_at : (i : Item) → slice_get p.items g ≡ Some i → goal_body p g ≡ elim i as (λ _. Option Formula) [ Axiom n v f ↦ None | Goal n v f ↦ Some f ]
  body_at i at = ap (λ (o : Option Item). o >>= λ i. elim i as (λ _. Option Formula) [ Axiom n v f ↦ None | Goal n v f ↦ Some f ]) at

-- ---- the goal
not_block : (f : Formula) → ((q : Quant) → f ≡ All q → ⊥) → goal_reached f ≡ is_simple f
not_block f n = go (out-Formula f) refl
  where
    go : (o : Formula-F Formula Quant) → out-Formula f ≡ o → goal_layer f o ≡ is_simple f
    go (layer.All q) e = absurd (n q (sym (roll-out-Formula f) ∙ ap roll-Formula e ∙ rolls-All q))
    go (layer.Ex q) e = refl
    go layer.True e = refl
    go layer.False e = refl
    go (layer.Eq a b) e = refl
    go (layer.Lt a b) e = refl
    go (layer.Le a b) e = refl
    go (layer.Pred m ss us) e = refl
    go (layer.Not a) e = refl
    go (layer.And a b) e = refl
    go (layer.Or a b) e = refl
    go (layer.Xor a b) e = refl
    go (layer.Iff a b) e = refl

of_block : (q : Quant) → goal_reached (All q) ≡ is_simple q.body
of_block q = ap (goal_layer (All q)) (outs-All q)

module _ (sig : Signature) where
  goal_in : (f : Formula) → goal_reached f ≡ true → IsGoalInReach sig f
  goal_in f h = go (out-Formula f) refl
    where
      as_plain : is_simple f ≡ true → IsGoalInReach sig f
      as_plain e = plain (record { simple = e })

      at : (o : Formula-F Formula Quant) → out-Formula f ≡ o → goal_layer f o ≡ true
      at o e = ap (goal_layer f) (sym e) ∙ h

      go : (o : Formula-F Formula Quant) → out-Formula f ≡ o → IsGoalInReach sig f
      go (layer.All q) e =
          subst (IsGoalInReach sig) (sym (sym (roll-out-Formula f) ∙ ap roll-Formula e ∙ rolls-All q))
          (block q (record { simple = simple_put (count_from 0 q.sorts) q.body 0 ∙ at (layer.All q) e }))
      go (layer.Ex q) e = as_plain (at (layer.Ex q) e)
      go layer.True e = as_plain (at layer.True e)
      go layer.False e = as_plain (at layer.False e)
      go (layer.Eq a b) e = as_plain (at (layer.Eq a b) e)
      go (layer.Lt a b) e = as_plain (at (layer.Lt a b) e)
      go (layer.Le a b) e = as_plain (at (layer.Le a b) e)
      go (layer.Pred m ss us) e = as_plain (at (layer.Pred m ss us) e)
      go (layer.Not a) e = as_plain (at (layer.Not a) e)
      go (layer.And a b) e = as_plain (at (layer.And a b) e)
      go (layer.Or a b) e = as_plain (at (layer.Or a b) e)
      go (layer.Xor a b) e = as_plain (at (layer.Xor a b) e)
      go (layer.Iff a b) e = as_plain (at (layer.Iff a b) e)

  in_goal : (f : Formula) → IsGoalInReach sig f → goal_reached f ≡ true
  in_goal f r = elim (goal_cases sig f r) as (λ _. goal_reached f ≡ true) [
    | inl s ↦ not_block f (λ q e. all_not_simple q (ap is_simple (sym e) ∙ s)) ∙ s
    | inr w ↦ ap goal_reached w.1 ∙ of_block w.0 ∙ w.2
  ]

-- ---- the whole
module _ (p : Problem) (g : ℕ) (lawful : IsLawfulProblem p) (n : List ℕ) (v : ℕ) (f : Formula) (at : slice_get p.items g ≡ Some (Goal n v f)) where
  in_reach : formula_ok p.signature f ≡ true → goal_reached f ≡ true → AreItemsReached p.signature p.items g → IsInReach p g
  in_reach s r is = record {
    not_varied = λ k m w h l e. let t = (parts k m w h l e).0 in grind (arith, nat_tests, t);
    hypotheses = λ k h e. let y = hypothesis_by p g k h e in record { simple = (parts k y.name y.vars h y.below y.at).2 };
    closed = λ k h e. let y = hypothesis_by p g k h e in ((parts k y.name y.vars h y.below y.at).1, (all_at (IsLawfulItem p.signature) p.items k (Axiom y.name y.vars h) lawful.items y.at).2);
    goal = f;
    is = body_at p g (Goal n v f) at;
    ground = goal_in p.signature f r;
    goal_closed = (s, (all_at (IsLawfulItem p.signature) p.items g (Goal n v f) lawful.items at).2);
  }
    where
      parts : (k : ℕ) (m : List ℕ) (w : ℕ) (h : Formula) → k < g → slice_get p.items k ≡ Some (Axiom m w h)
          → (nat_eq w 0 ≡ true) × (formula_ok p.signature h ≡ true) × (is_simple h ≡ true)
      parts k m w h l e = three_parts (nat_eq w 0) (formula_ok p.signature h) (is_simple h) (is k (Axiom m w h) l e)

  same_goal : (r : IsInReach p g) → r.goal ≡ f
  same_goal r = sym (same_Some f r.goal (sym (body_at p g (Goal n v f) at) ∙ r.is))

  goal_sorted : IsInReach p g → formula_ok p.signature f ≡ true
  goal_sorted r = ap (formula_ok p.signature) (sym (same_goal r)) ∙ r.goal_closed.0

  goal_is_reached : IsInReach p g → goal_reached f ≡ true
  goal_is_reached r = in_goal p.signature f (subst (IsGoalInReach p.signature) (same_goal r) r.ground)

  items_are_reached : IsInReach p g → AreItemsReached p.signature p.items g
  items_are_reached r k (Goal m w h) l e = refl
  items_are_reached r k (Axiom m w h) l e =
      let z : w ≡ 0 = r.not_varied k m w h l e in
      let y = is_hypothesis p g k m h l (e ∙ ap (λ (u : ℕ). Some (Axiom m u h)) z) in
      let s = (r.closed k h y).0 in
      let x = (r.hypotheses k h y).simple in
      (λ i. nat_eq (z i) 0 && formula_ok p.signature h && is_simple h) ∙ (λ i. s i && x i)

  pub decided : AreReached p g f ↔ IsInReach p g
  decided = (λ a. in_reach a.0 a.1 a.2, λ r. (goal_sorted r, goal_is_reached r, items_are_reached r))
