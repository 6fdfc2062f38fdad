-- A name whose linear form is a number has that number.
use Rattle.std.specs.Prelude.{ℕ, zero, suc, ℤ, ◌<◌, ◌⊎◌, Bool, true, false, cond, List, [], ◌∷◌, ◌≡◌, map, length, slice_get, Option, Some, None}
use Rattle.std.specs.List.{AllByRecursion, list_all}
use Rattle.std.proofs.Common.{refl, sym, ap, ◌∙◌, arith, inl, inr}
use Rattle.std.proofs.lemmas.Bool.{and_parts}
use Rattle.std.proofs.lemmas.Option.{same_Some, none-some}
use native.Mathlib.Decide.{ℕ_discrete}
use Rattle.ae_base.specs.Decided.{pick}
use Rattle.ae_base.proofs.ListFacts.{map_map, value_at}
use Rattle.ae_math.specs.Fractions.{ℚ, zero_ℚ, one_ℚ, neg_ℚ, inverse_ℚ, ratio, ◌+ℚ◌, ◌*ℚ◌}
use Rattle.ae_math.specs.Forms.{Form, SameForm, number as number_form, single, plus, minus, scale, factor, factor_in, is_zero, value}
use Rattle.ae_math.proofs.FractionLaws.{zero_mul_q, one_mul_q}
use Rattle.ae_math.proofs.FormLaws.{zero_is, value-plus, value-scale, value-number, value-single, value-same, factor_in-append, factor_in-scale}
use Rattle.ae_core.specs.Decided.{Term_discrete}
use Rattle.ae_core.specs.Sorts.{same_sort}
use Rattle.ae_core.specs.declared.terms.Sort.{Sort, Real}
use Rattle.ae_core.specs.declared.terms.Term.{Term, Bound, Num, Fresh, Apply, Apply'}
use Rattle.ae_core.specs.declared.terms.Head.{Head}
use Rattle.ae_core.specs.declared.problems.Signature.{Signature}
use Rattle.ae_num.specs.Forms.{meaning, SameMeaning}
use Rattle.ae_num.specs.declared.forms.Lin.{Lin}
use Rattle.ae_rules.specs.Linear.{Linear, factor_of, form, is_number, over, Rule, rule_of, ruled}
use Rattle.ae_rules.specs.Linear.Rule.{opaque_term, sum_of, difference_of, negation_of, product_of, quotient_of}
use Rattle.ae_rules.proofs.LinearLaws.{form-Apply, form-Num, form-Fresh}
use Rattle.ae_settled.specs.Valued.{linear_form, linear_by, with_forms, quotient}
use Rattle.ae_store.specs.declared.nodes.Node.{Node}
use Rattle.ae_store.specs.declared.nodes.NodeHead.{NodeHead}
use Rattle.ae_store.specs.declared.nodes.NodeHead.TheVariants as node
use Rattle.ae_store.specs.Shapes.{shapes}
use Rattle.ae_store.specs.Terms.{terms, named}
use Rattle.ae_store.specs.Stores.{IsStore}
use Rattle.ae_store.proofs.StoreLaws.{name_term, number_term, fresh_term}
use Rattle.ae_strips.proofs.FieldTerms.{term_there, args_below}
use Rattle.ae_entering.specs.Firsts.{AreFirst}
use Rattle.ae_entering.proofs.Rules.{with_each, OfEach, rule_map, rule_each, each_weaker, form_each}

-- ---- the name of a term
abbrev name_of : List Term → Term → ℕ
name_of [] t = 0
name_of (x ∷ xs) t = pick (Term_discrete x t) 0 (suc (name_of xs t))

found : (xs : List Term) (t : Term) (k : ℕ) → slice_get xs k ≡ Some t → slice_get xs (name_of xs t) ≡ Some t
found [] t k e = absurd (none-some t e)
found (x ∷ xs) t zero e =
    elim (Term_discrete x t) as (λ d. slice_get (x ∷ xs) (pick d 0 (suc (name_of xs t))) ≡ Some t) [ yes s ↦ e | no m ↦ absurd (m (same_Some x t e)) ]
found (x ∷ xs) t (suc k) e =
    elim (Term_discrete x t) as (λ d. slice_get (x ∷ xs) (pick d 0 (suc (name_of xs t))) ≡ Some t) [ yes s ↦ ap Some s | no m ↦ found xs t k e ]

-- ---- a form that is a number has no factor
no_factor : (G : Term → ℚ) (ps : List (Term × ℚ)) (u : Term) → list_all (λ p. is_zero (G p.0)) ps ≡ true → (factor_in Term_discrete ps u ≡ zero_ℚ) ⊎ (G u ≡ zero_ℚ)
no_factor G [] u e = inl refl
no_factor G (p ∷ ps) u e =
    let s = and_parts (is_zero (G p.0)) (list_all (λ q. is_zero (G q.0)) ps) e in
    elim (Term_discrete p.0 u) as (λ d. (pick d (p.1 +ℚ factor_in Term_discrete ps u) (factor_in Term_discrete ps u) ≡ zero_ℚ) ⊎ (G u ≡ zero_ℚ)) [
      | yes f ↦ inr (ap G (sym f) ∙ zero_is (G p.0) s.0)
      | no n ↦ no_factor G ps u s.1
    ]

number_same : (f : Linear) → is_number f ≡ true → SameForm Term_discrete f (number_form f.constant)
number_same f e = record { factors = λ u. (elim (no_factor (factor_of f) f.parts u e) [ inl p ↦ p | inr p ↦ p ]); constants = refl }

-- ---- functions that sums and multiples keep
pub record IsLinearly (F : Form ℕ → ℚ) (u : ℚ) : Type 0 where
  pub same : (f g : Form ℕ) → SameMeaning f g → F f ≡ F g
  pub sum : (f g : Form ℕ) → F (plus f g) ≡ F f +ℚ F g
  pub multiple : (x : ℚ) (f : Form ℕ) → F (scale x f) ≡ x *ℚ F f
  pub constant : (x : ℚ) → F (number_form x) ≡ u *ℚ x

module _ (sig : Signature) (nodes : List Node) (store : IsStore sig nodes) (n : ℕ) (number : ℕ → Lin) (leaf : ℕ → ℕ) (first : AreFirst sig (terms (shapes nodes)) n number leaf) where
  abbrev ts : List Term
  ts = terms (shapes nodes)

  module _ (F : Form ℕ → ℚ) (u : ℚ) (lin : IsLinearly F u) where
    abbrev G : Term → ℚ
    G t = F (meaning (number (name_of ts t)))

    abbrev Claim : ℕ → Type 0
    Claim k = F (meaning (number k)) ≡ value G u (form (named ts k))

    own : (k : ℕ) (t : Term) → slice_get ts k ≡ Some t → F (meaning (number k)) ≡ value G u (single t)
    own k t at =
        let e : name_of ts t ≡ k = store.sound.one_name (name_of ts t) k t (found ts t k at) at in
        ap (λ j. F (meaning (number j))) (sym e) ∙ sym (value-single G u t)

    module _ (k : ℕ) (t : Term) (at : slice_get ts k ≡ Some t) where
      abbrev Right : Linear → Type 0
      Right f = F (meaning (number k)) ≡ value G u f

      abbrev Left : Option (Form ℕ) → Type 0
      Left o = (g : Form ℕ) → o ≡ Some g → SameMeaning (meaning (number k)) g

      multiple_of : (x : ℚ) (a : ℕ) → Claim a → SameMeaning (meaning (number k)) (scale x (meaning (number a))) → Right (scale x (form (named ts a)))
      multiple_of x a h s = lin.same (meaning (number k)) (scale x (meaning (number a))) s ∙ lin.multiple x (meaning (number a)) ∙ ap (λ z. x *ℚ z) h ∙ sym (value-scale G u x (form (named ts a)))

      by_product : (x z : Bool) (ca cb : ℚ) (a b : ℕ) → Claim a → Claim b → Left (cond x (Some (scale ca (meaning (number b)))) (cond z (Some (scale cb (meaning (number a)))) None))
          → Right (cond x (scale ca (form (named ts b))) (cond z (scale cb (form (named ts a))) (single t)))
      by_product true z ca cb a b p q h = multiple_of ca b q (h (scale ca (meaning (number b))) refl)
      by_product false true ca cb a b p q h = multiple_of cb a p (h (scale cb (meaning (number a))) refl)
      by_product false false ca cb a b p q h = own k t at

      by_zero : (z : Bool) (x : ℚ) (a : ℕ) → Claim a → Left (cond z None (Some (scale x (meaning (number a))))) → Right (cond z (single t) (scale x (form (named ts a))))
      by_zero true x a p h = own k t at
      by_zero false x a p h = multiple_of x a p (h (scale x (meaning (number a))) refl)

      by_divisor : (w : Term) (a : ℕ) → Claim a → Left (quotient (meaning (number a)) w) → Right (over t (form (named ts a)) w)
      by_divisor (Bound j) a p h = own k t at
      by_divisor (Fresh j s) a p h = own k t at
      by_divisor (Apply' j ss shape row) a p h = own k t at
      by_divisor (Num c d r) a p h = by_zero (is_zero (ratio c d)) (inverse_ℚ (ratio c d)) a p h

      by_rule : (r : Rule ℕ) → OfEach Claim r → Left (linear_by (with_each (λ i. (named ts i, meaning (number i))) r)) → Right (ruled t (with_each (λ i. (named ts i, form (named ts i))) r))
      by_rule opaque_term c h = own k t at
      by_rule (sum_of a b) c h =
          lin.same (meaning (number k)) (plus (meaning (number a)) (meaning (number b))) (h (plus (meaning (number a)) (meaning (number b))) refl)
          ∙ lin.sum (meaning (number a)) (meaning (number b)) ∙ (λ i. c.0 i +ℚ c.1 i) ∙ sym (value-plus G u (form (named ts a)) (form (named ts b)))
      by_rule (difference_of a b) c h =
          let x = neg_ℚ one_ℚ in
          lin.same (meaning (number k)) (minus (meaning (number a)) (meaning (number b))) (h (minus (meaning (number a)) (meaning (number b))) refl)
          ∙ lin.sum (meaning (number a)) (scale x (meaning (number b)))
          ∙ (λ i. c.0 i +ℚ (lin.multiple x (meaning (number b)) ∙ ap (λ z. x *ℚ z) c.1 ∙ sym (value-scale G u x (form (named ts b)))) i)
          ∙ sym (value-plus G u (form (named ts a)) (scale x (form (named ts b))))
      by_rule (negation_of a) c h = multiple_of (neg_ℚ one_ℚ) a c (h (scale (neg_ℚ one_ℚ) (meaning (number a))) refl)
      by_rule (product_of a b) c h =
          by_product (is_number (form (named ts a))) (is_number (form (named ts b))) (form (named ts a)).constant (form (named ts b)).constant a b c.0 c.1 h
      by_rule (quotient_of a b) c h = by_divisor (named ts b) a c.0 h

    applied_claim : (k : ℕ) (h : Head) (p : Node) → k < n → slice_get nodes k ≡ Some p → p.head ≡ node.Of h → ((a : ℕ) → a < k → Claim a) → Claim k
    applied_claim k h p l at e earlier =
        let args = p.args in
        let us = map (named ts) args in
        let t = Apply h p.sorts us in
        let there : slice_get ts k ≡ Some t = term_there sig nodes store k p h at e in
        let below : AllByRecursion (λ a. a < k) args = args_below sig nodes store k p at in
        let f2 : ℕ → Term × Form ℕ = λ i. (named ts i, meaning (number i)) in
        let f1 : ℕ → Term × Linear = λ i. (named ts i, form (named ts i)) in
        let left : linear_form h (with_forms us (map number args)) ≡ linear_by (with_each f2 (rule_of h args)) = form_each ts number h args in
        let right : form t ≡ ruled t (with_each f1 (rule_of h args)) =
        form-Apply h p.sorts us ∙ ap (λ (xs : List (Term × Linear)). ruled t (rule_of h xs)) (map_map (named ts) (λ (x : Term). (x, form x)) args) ∙ ap (ruled t) (rule_map f1 h args) in
        let claims : OfEach Claim (rule_of h args) = each_weaker (λ a. a < k) Claim earlier (rule_of h args) (rule_each (λ a. a < k) h args below) in
        let done = by_rule k t there (rule_of h args) claims (λ g s. first.operations k h p.sorts args g l below there (left ∙ s)) in
        done ∙ ap (value G u) (sym right ∙ ap form (sym (name_term ts k t there)))

    numeral_claim : (k : ℕ) (a b : ℤ) (real : Bool) → k < n → slice_get ts k ≡ Some (Num a b real) → Claim k
    numeral_claim k a b real l at =
        lin.same (meaning (number k)) (number_form (ratio a b)) (first.numerals k a b real l at) ∙ lin.constant (ratio a b) ∙ sym (value-number G u (ratio a b))
        ∙ ap (value G u) (sym (form-Num a b real) ∙ ap form (sym (name_term ts k (Num a b real) at)))

    fresh_claim : (k j : ℕ) (s : Sort) → slice_get ts k ≡ Some (Fresh j s) → Claim k
    fresh_claim k j s at = own k (Fresh j s) at ∙ ap (value G u) (sym (form-Fresh j s) ∙ ap form (sym (name_term ts k (Fresh j s) at)))

    by_head : (k : ℕ) (p : Node) (h : NodeHead) → k < n → slice_get nodes k ≡ Some p → p.head ≡ h → ((a : ℕ) → a < k → Claim a) → Claim k
    by_head k p (node.Of h) l at e earlier = applied_claim k h p l at e earlier
    by_head k p (node.Num a b) l at e earlier =
        numeral_claim k a b (same_sort p.sort Real) l (number_term nodes (record { args = λ i x g. (store.sound.places i x g).args }) k p at a b (Num a b (same_sort p.sort Real)) e refl)
    by_head k p (node.Fresh j) l at e earlier = fresh_claim k j p.sort (fresh_term nodes (record { args = λ i x g. (store.sound.places i x g).args }) k p at j p.sort e refl)

    claims : (bound k : ℕ) → k < bound → k < n → k < length nodes → Claim k
    claims zero k b l w = absurd (omega (arith, b))
    claims (suc bound) k b l w =
        let p = value_at nodes k w in
        by_head k p.0 (p.0).head l p.1 refl (λ a i. claims bound a (omega (arith, b, i)) (omega (arith, l, i)) (omega (arith, w, i)))

    pub constant_by : (k : ℕ) → k < n → k < length nodes → is_number (form (named ts k)) ≡ true → F (meaning (number k)) ≡ u *ℚ (form (named ts k)).constant
    constant_by k l w c =
        let f = form (named ts k) in
        claims (suc k) k (omega arith) l w ∙ value-same Term_discrete G u f (number_form f.constant) (number_same f c) ∙ value-number G u f.constant

  -- the factor of a name, and the constant
  factors_linearly : (j : ℕ) → IsLinearly (λ f. factor ℕ_discrete f j) zero_ℚ
  factors_linearly j = record {
    same = λ f g s. s.factors j;
    sum = λ f g. factor_in-append ℕ_discrete f.parts g.parts j;
    multiple = λ x f. factor_in-scale ℕ_discrete x f.parts j;
    constant = λ x. sym (zero_mul_q x);
  }

  constants_linearly : IsLinearly (λ f. f.constant) one_ℚ
  constants_linearly = record { same = λ f g s. s.constants; sum = λ f g. refl; multiple = λ x f. refl; constant = λ x. sym (one_mul_q x) }

  pub is_constant : (k : ℕ) → k < n → k < length nodes → is_number (form (named ts k)) ≡ true → SameMeaning (meaning (number k)) (number_form (form (named ts k)).constant)
  is_constant k l w c = record {
    factors = λ j. constant_by (λ f. factor ℕ_discrete f j) zero_ℚ (factors_linearly j) k l w c ∙ zero_mul_q (form (named ts k)).constant;
    constants = constant_by (λ f. f.constant) one_ℚ constants_linearly k l w c ∙ one_mul_q (form (named ts k)).constant;
  }
