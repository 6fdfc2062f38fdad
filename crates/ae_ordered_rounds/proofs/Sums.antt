-- What stands in sums and products of whole numbers and names has names, but for numbers.
use Rattle.std.specs.Prelude.{ℤ, pos, ◌≡◌, ◌⊎◌, Bool, false, cond, List, [], ◌∷◌, Some, None}
use Rattle.std.specs.List.{Contains}
use Rattle.std.proofs.Common.{sym, ap, ◌∙◌, subst, arith, inl, inr}
use Rattle.std.proofs.lemmas.Option.{none-some}
use Rattle.ae_added_orders.proofs.Over.{named_over, stands_in_one}
use Rattle.ae_added_orders.specs.Ordering.{IsNumber, IsOverNames}
use Rattle.ae_base.proofs.Options.{each_known, when_some}
use Rattle.ae_core.proofs.SortLaws.{sort_in_num}
use Rattle.ae_core.specs.Sorts.{is_closed_sort, numeral_ok, sort_of}
use Rattle.ae_core.specs.declared.problems.Signature.{Signature}
use Rattle.ae_core.specs.declared.terms.Head.{Head}
use Rattle.ae_core.specs.declared.terms.Head.TheVariants as head
use Rattle.ae_core.specs.declared.terms.Op.{Op}
use Rattle.ae_core.specs.declared.terms.Sort.{Sort, Int, Real, out-Sort}
use Rattle.ae_core.specs.declared.terms.Sort.TheVariants.{outs-Int}
use Rattle.ae_core.specs.declared.terms.Term.{Term, Term-F, Apply, out-Term}
use Rattle.ae_core.specs.declared.terms.Term.TheOpen as layer
use Rattle.ae_core.specs.declared.terms.Term.TheVariants.{outs-Apply, outs-Num}
use Rattle.ae_evaluation.proofs.SortFacts.{is_applied}
use Rattle.ae_goal_names.specs.Named.{StandsIn, argument, field, itself}
use Rattle.ae_journal.proofs.Splits.{contains_cases, contains_one}
use Rattle.ae_journal.specs.Systems.{arithmetic, fields_of, is_real, numeral_of, record_fields}
use Rattle.ae_num.specs.declared.forms.Lin.{Lin}
use Rattle.ae_journal.specs.Sides.{other_side, side}
use Rattle.ae_ordered_rounds.proofs.Closed.{other_holds, side_holds}
use Rattle.ae_store.proofs.NodeSortLaws.{node_sort_is}
use Rattle.ae_store.specs.Stores.{IsStore, Stored}
use Rattle.ae_store.specs.Terms.{node_sort}
use Rattle.ae_theory.specs.Names.{terms_in}

-- ---- what stands in a term that is no record is the term, or stands in its arguments
abbrev pub arguments_by : Term-F Term → List Term
arguments_by (layer.Apply h ss us) = us
arguments_by _ = []

own_arguments : (t : Term) (h : Head) (ss : List Sort) (us : List Term) → t ≡ Apply h ss us → us ≡ arguments_by (out-Term t)
own_arguments t h ss us e = ap arguments_by (sym (outs-Apply h ss us)) ∙ ap (λ (z : Term). arguments_by (out-Term z)) (sym e)

module _ (sig : Signature) where
  under : (t : Term) → ((x : Sort) → sort_of sig t ≡ Some x → record_fields sig x ≡ None) → (u : Term) → StandsIn sig (t ∷ []) u → (t ≡ u) ⊎ StandsIn sig (arguments_by (out-Term t)) u
  under t none u (itself c) = inl (contains_one t u c)
  under t none u (argument h ss us a i) = elim (under t none (Apply h ss us) a) as (λ _. (t ≡ u) ⊎ StandsIn sig (arguments_by (out-Term t)) u) [
    | inl e ↦ inr (itself (subst (λ (ws : List Term). Contains ws u) (own_arguments t h ss us e) i))
    | inr k ↦ inr (argument h ss us k i)
  ]
  under t none u (field o ss w a e f i) = elim (under t none w a) as (λ _. (t ≡ u) ⊎ StandsIn sig (arguments_by (out-Term t)) u) [
    | inl q ↦ absurd (none-some ss (sym (none o (ap (sort_of sig) q ∙ e)) ∙ f))
    | inr k ↦ inr (field o ss w k e f i)
  ]

  nothing_stands : (u : Term) → StandsIn sig [] u → ⊥
  nothing_stands u (itself c) = let l = c.1 in omega (arith, l)
  nothing_stands u (argument h ss us a i) = nothing_stands (Apply h ss us) a
  nothing_stands u (field o ss w a e f i) = nothing_stands w a

  -- ---- the sorts of whole numbers, sums and products
  no_real : is_real (out-Sort Int) ≡ false
  no_real = ap is_real outs-Int

  whole_fields : (x : Sort) → x ≡ Int → record_fields sig x ≡ None
  whole_fields x e = ap (record_fields sig) e ∙ ap (fields_of sig) outs-Int

  number_sort : (z : ℤ) (x : Sort) → sort_of sig (numeral_of Int z) ≡ Some x → x ≡ Int
  number_sort z x e =
      let b = is_real (out-Sort Int) in
      let is : cond b Real Int ≡ x = (when_some (numeral_ok z (pos 1) b) (cond b Real Int) x (sym (sort_in_num sig (is_closed_sort sig) [] z (pos 1) b) ∙ e)).1 in
      sym is ∙ ap (λ (c : Bool). cond c Real Int) no_real

  two_sort : (o : Op) (a b : Term) (x : Sort) → sort_of sig (Apply (arithmetic Int o) [] (a ∷ b ∷ [])) ≡ Some x → x ≡ Int
  two_sort o a b x e =
      let w = is_applied sig (arithmetic Int o) [] (a ∷ b ∷ []) x e in
      sym (node_sort_is sig (arithmetic Int o) [] w.args x w.headed) ∙ ap (λ (c : Bool). node_sort sig (cond c (head.Real o) (head.Int o)) []) no_real

module _ (s : Stored) (store : IsStore s.signature s.nodes) where
  abbrev sig : Signature
  sig = s.signature

  -- what stands in it, if it is well sorted
  abbrev Over : Term → Type 0
  Over t = (x : Sort) → sort_of sig t ≡ Some x → IsOverNames sig s t

  number_over : (z : ℤ) → Over (numeral_of Int z)
  number_over z x e u k =
      let t = numeral_of Int z in
      elim (under sig t (λ y f. whole_fields sig y (number_sort sig z y f)) u k) as (λ _. Contains (terms_in s) u ⊎ IsNumber sig u) [
        | inl same ↦ inr (inl (ap (sort_of sig) (sym same) ∙ e ∙ ap (λ (y : Sort). Some y) (number_sort sig z x e)))
        | inr deep ↦ absurd (nothing_stands sig u (subst (λ (ws : List Term). StandsIn sig ws u) (ap arguments_by (outs-Num z (pos 1) (is_real (out-Sort Int)))) deep))
      ]

  two_over : (o : Op) (a b : Term) → Over a → Over b → Over (Apply (arithmetic Int o) [] (a ∷ b ∷ []))
  two_over o a b over_a over_b x e u k =
      let t = Apply (arithmetic Int o) [] (a ∷ b ∷ []) in
      let each = each_known (sort_of sig) (a ∷ b ∷ []) (is_applied sig (arithmetic Int o) [] (a ∷ b ∷ []) x e).args (is_applied sig (arithmetic Int o) [] (a ∷ b ∷ []) x e).known in
      elim (under sig t (λ y f. whole_fields sig y (two_sort sig o a b y f)) u k) as (λ _. Contains (terms_in s) u ⊎ IsNumber sig u) [
        | inl same ↦ inr (inl (ap (sort_of sig) (sym same) ∙ e ∙ ap (λ (y : Sort). Some y) (two_sort sig o a b x e)))
        | inr deep ↦
            let w = stands_in_one sig (a ∷ b ∷ []) u (subst (λ (ws : List Term). StandsIn sig ws u) (ap arguments_by (outs-Apply (arithmetic Int o) [] (a ∷ b ∷ []))) deep) in
            elim (contains_cases a (b ∷ []) w.0 w.1) as (λ _. Contains (terms_in s) u ⊎ IsNumber sig u) [
              | inl q ↦ over_a each.0.0 each.0.1 u (subst (λ (v : Term). StandsIn sig (v ∷ []) u) (sym q) w.2)
              | inr r ↦ over_b each.1.0.0 each.1.0.1 u (subst (λ (v : Term). StandsIn sig (v ∷ []) u) (sym (contains_one b w.0 r)) w.2)
            ]
      ]

  name_over : (t : Term) → Contains (terms_in s) t → Over t
  name_over t h x e = named_over s store t h

  -- ---- the sides of a row
  pub sides_over : (f : Lin) → sort_of sig (side Int (terms_in s) f) ≡ Some Int → sort_of sig (other_side Int (terms_in s) f) ≡ Some Int
      → IsOverNames sig s (other_side Int (terms_in s) f) × IsOverNames sig s (side Int (terms_in s) f)
  sides_over f own other =
      (other_holds Over (terms_in s) name_over number_over two_over f Int other, side_holds Over (terms_in s) name_over number_over two_over f Int own)
