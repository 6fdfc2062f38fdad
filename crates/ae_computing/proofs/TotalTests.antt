-- The test of a sum says `true` exactly where the value is the sum.
use Rattle.std.specs.Prelude.{ℕ, ℤ, true, ◌&&◌, ◌≡◌, ◌↔◌, ◌⊎◌, List, [], ◌∷◌, ◌++◌}
use Rattle.std.specs.List.{list_all}
use Rattle.std.proofs.Common.{inl, inr}
use Rattle.std.proofs.lemmas.Bool.{and_parts, and_from}
use mathlib.Core.Path.{refl, sym, ap, subst, ◌∙◌}
use native.Mathlib.Decide.{ℕ_discrete}
use Rattle.ae_base.specs.Decided.{pick}
use Rattle.ae_base.proofs.Decided.{decided_of, decided_yes}
use Rattle.ae_math.specs.Fractions.{ℚ, zero_ℚ, one_ℚ, ratio, ◌+ℚ◌, ◌*ℚ◌, ℚ_discrete}
use Rattle.ae_math.proofs.FractionLaws.{add_zero_q, mul_zero_q, one_mul_q}
use Rattle.ae_num.specs.Forms.{meaning as form_of}
use Rattle.ae_num.specs.declared.forms.Lin.{Lin}
use Rattle.ae_num.specs.declared.forms.Part.{Part}
use Rattle.ae_num.specs.declared.forms.Value.{Value, Value-F, map-Value, out-Value, roll-out-Value}
use Rattle.ae_num.specs.declared.forms.Value.TheOpen as layer
use Rattle.ae_journal.specs.Values.{Val, Sum, number, sum_in, plus_val, scale_val, meaning, meaning_step, sum_of_lin, leaf_factor, scaled, IsSettled}
use Rattle.ae_evaluation.proofs.Sums.{factor-settled, factor-append, factor-scaled, settles, one_sum}
use Rattle.ae_decide.proofs.NormalValues.{meaning-roll}
use Rattle.ae_computing.specs.Inner.Totals.{coefficient_by, coefficient, total, agrees_at, agrees_by, agrees_on, agrees_on_each, is_number_by, is_number, is_total}
use Rattle.ae_computing.specs.declared.values.Place.{Place}
use Rattle.ae_computing.specs.declared.values.Place.TheVariants.{Constant, Leaf}
use Rattle.ae_computing.proofs.TotalLaws.{parts_over}

-- ---- the numbers of meanings
-- the number at a place of a value
abbrev pub number_at : Place → Val → ℚ
number_at Constant v = (sum_in v).constant
number_at (Leaf k) v = leaf_factor (sum_in v).parts k

pub is_meaning : (w : Value) → meaning w ≡ meaning_step (map-Value Value Val meaning (out-Value w))
is_meaning w = ap meaning (sym (roll-out-Value w)) ∙ meaning-roll (out-Value w)

pub at_meaning : (p : Place) (w : Value) → number_at p (meaning w) ≡ coefficient p w
at_meaning p w = ap (number_at p) (is_meaning w) ∙ by_layer p (out-Value w)
  where
    by_layer : (p : Place) (l : Value-F Value) → number_at p (meaning_step (map-Value Value Val meaning l)) ≡ coefficient_by p l
    by_layer Constant (layer.Number f) = refl
    by_layer (Leaf k) (layer.Number f) = factor-settled (form_of f).parts k
    by_layer Constant (layer.Leaf n) = refl
    by_layer (Leaf k) (layer.Leaf n) = refl
    by_layer Constant (layer.Fields vs) = refl
    by_layer (Leaf k) (layer.Fields vs) = refl

pub at_plus : (p : Place) (v w : Val) → number_at p (plus_val v w) ≡ number_at p v +ℚ number_at p w
at_plus Constant v w = refl
at_plus (Leaf k) v w = factor-settled ((sum_in v).parts ++ (sum_in w).parts) k ∙ factor-append (sum_in v).parts (sum_in w).parts k

pub at_scale : (p : Place) (x : ℚ) (v : Val) → number_at p (scale_val x v) ≡ x *ℚ number_at p v
at_scale Constant x v = refl
at_scale (Leaf k) x v = factor-settled (scaled x (sum_in v).parts) k ∙ factor-scaled x (sum_in v).parts k

-- ---- sums
-- a number in its one spelling that has the numbers of the sum
pub record IsTotal (v : Val) (ss : List (ℚ × Value)) : Type 0 where
  pub sum : Sum
  pub is : v ≡ number sum
  pub settled : IsSettled sum.parts
  pub numbers : (p : Place) → number_at p v ≡ total ss p

pub one_summand : (x : ℚ) (w : Value) → IsTotal (scale_val x (meaning w)) ((x, w) ∷ [])
one_summand x w = record {
  sum = sum_in (scale_val x (meaning w));
  is = refl;
  settled = settles (scaled x (sum_in (meaning w)).parts);
  numbers = λ p. at_scale p x (meaning w) ∙ ap (λ z. x *ℚ z) (at_meaning p w) ∙ sym (add_zero_q (x *ℚ coefficient p w));
}

pub two_summands : (x : ℚ) (w u : Value) (v : Val) → ((p : Place) → number_at p v ≡ x *ℚ coefficient p u)
    → IsTotal (plus_val (meaning w) v) ((one_ℚ, w) ∷ (x, u) ∷ [])
two_summands x w u v h = record {
  sum = sum_in (plus_val (meaning w) v);
  is = refl;
  settled = settles ((sum_in (meaning w)).parts ++ (sum_in v).parts);
  numbers = λ p. at_plus p (meaning w) v
      ∙ (λ i. (at_meaning p w ∙ sym (one_mul_q (coefficient p w))) i +ℚ (h p ∙ sym (add_zero_q (x *ℚ coefficient p u))) i);
}

module _ (v : Value) (ss : List (ℚ × Value)) where
  abbrev Agrees : ℕ → Type 0
  Agrees k = coefficient (Leaf k) v ≡ total ss (Leaf k)

  -- at a key of some parts, or their factor is 0
  over_parts : (den : ℤ) (ps : List Part) → list_all (λ q. agrees_at v ss (Leaf q.key)) ps ≡ true → (k : ℕ)
      → Agrees k ⊎ (leaf_factor (parts_over den ps) k ≡ zero_ℚ)
  over_parts den [] e k = inr refl
  over_parts den (p ∷ ps) e k =
      let a = and_parts (agrees_at v ss (Leaf p.key)) (list_all (λ q. agrees_at v ss (Leaf q.key)) ps) e in
      let rest = leaf_factor (parts_over den ps) k in
      elim (ℕ_discrete p.key k) as (λ d. Agrees k ⊎ (pick d (ratio p.factor den +ℚ rest) rest ≡ zero_ℚ)) [
        | yes f ↦ inl (subst Agrees f (decided_yes (ℚ_discrete (coefficient (Leaf p.key) v) (total ss (Leaf p.key))) a.0))
        | no n ↦ over_parts den ps a.1 k
      ]

  over_layer : (l : Value-F Value) → agrees_by v ss l ≡ true → (k : ℕ) → Agrees k ⊎ (coefficient_by (Leaf k) l ≡ zero_ℚ)
  over_layer (layer.Number f) e k = over_parts f.den f.parts e k
  over_layer (layer.Leaf n) e k = inr refl
  over_layer (layer.Fields vs) e k = inr refl

  over_each : (ts : List (ℚ × Value)) → agrees_on_each v ss ts ≡ true → (k : ℕ) → Agrees k ⊎ (total ts (Leaf k) ≡ zero_ℚ)
  over_each [] e k = inr refl
  over_each (t ∷ ts) e k =
      let a = and_parts (agrees_on v ss t.1) (agrees_on_each v ss ts) e in
      elim (over_layer (out-Value t.1) a.0 k) [
        | inl q ↦ inl q
        | inr z ↦ elim (over_each ts a.1 k) [
          | inl q ↦ inl q
          | inr y ↦ inr ((λ i. t.0 *ℚ z i +ℚ y i) ∙ add_zero_q (t.0 *ℚ zero_ℚ) ∙ mul_zero_q t.0)
        ]
      ]

  agrees : agrees_on v ss v ≡ true → agrees_on_each v ss ss ≡ true → (k : ℕ) → Agrees k
  agrees e f k =
      elim (over_layer (out-Value v) e k) [
        | inl q ↦ q
        | inr z ↦ elim (over_each ss f k) [ inl q ↦ q | inr y ↦ z ∙ sym y ]
      ]

  -- ---- from the test
  tested_number : (l : Value-F Value) → is_number_by l ≡ true → (f : Lin) × (l ≡ layer.Number f)
  tested_number (layer.Number f) e = (f, refl)
  tested_number (layer.Leaf n) e = absurd (cc)
  tested_number (layer.Fields vs) e = absurd (cc)

  pub of_total : (x : Val) → IsTotal x ss → is_total v ss ≡ true → meaning v ≡ x
  of_total x t e =
      let a = and_parts (is_number v) (agrees_at v ss Constant && (agrees_on v ss v && agrees_on_each v ss ss)) e in
      let b = and_parts (agrees_at v ss Constant) (agrees_on v ss v && agrees_on_each v ss ss) a.1 in
      let c = and_parts (agrees_on v ss v) (agrees_on_each v ss ss) b.1 in
      let (f, is) = tested_number (out-Value v) a.0 in
      let means : meaning v ≡ number (sum_of_lin f) = is_meaning v ∙ ap (λ l. meaning_step (map-Value Value Val meaning l)) is in
      let same : (p : Place) → coefficient p v ≡ total ss p → number_at p (number (sum_of_lin f)) ≡ number_at p (number t.sum) =
      λ p q. sym (ap (number_at p) means) ∙ at_meaning p v ∙ q ∙ sym (t.numbers p) ∙ ap (number_at p) t.is in
      let constants : (sum_of_lin f).constant ≡ t.sum.constant =
      same Constant (decided_yes (ℚ_discrete (coefficient Constant v) (total ss Constant)) b.0) in
      let parts : (sum_of_lin f).parts ≡ t.sum.parts =
      one_sum (sum_of_lin f).parts t.sum.parts (settles (form_of f).parts) t.settled (λ k. same (Leaf k) (agrees c.0 c.1 k)) in
      means ∙ (λ i. number (record { parts = parts i; constant = constants i })) ∙ sym t.is

  -- ---- to the test
  number_tested : (l : Value-F Value) (s : Sum) → meaning_step (map-Value Value Val meaning l) ≡ number s → is_number_by l ≡ true
  number_tested (layer.Number f) s e = refl
  number_tested (layer.Leaf n) s e = absurd (cc)
  number_tested (layer.Fields vs) s e = absurd (cc)

  module _ (all : (p : Place) → coefficient p v ≡ total ss p) where
    at_place : (p : Place) → agrees_at v ss p ≡ true
    at_place p = decided_of (ℚ_discrete (coefficient p v) (total ss p)) (all p)

    at_parts : (ps : List Part) → list_all (λ q. agrees_at v ss (Leaf q.key)) ps ≡ true
    at_parts [] = refl
    at_parts (p ∷ ps) = and_from (agrees_at v ss (Leaf p.key)) (list_all (λ q. agrees_at v ss (Leaf q.key)) ps) (at_place (Leaf p.key)) (at_parts ps)

    at_layer : (l : Value-F Value) → agrees_by v ss l ≡ true
    at_layer (layer.Number f) = at_parts f.parts
    at_layer (layer.Leaf n) = refl
    at_layer (layer.Fields vs) = refl

    at_each : (ts : List (ℚ × Value)) → agrees_on_each v ss ts ≡ true
    at_each [] = refl
    at_each (t ∷ ts) = and_from (agrees_on v ss t.1) (agrees_on_each v ss ts) (at_layer (out-Value t.1)) (at_each ts)

  pub to_total : (x : Val) → IsTotal x ss → meaning v ≡ x → is_total v ss ≡ true
  to_total x t e =
      let all : (p : Place) → coefficient p v ≡ total ss p = λ p. sym (at_meaning p v) ∙ ap (number_at p) e ∙ t.numbers p in
      and_from (is_number v) (agrees_at v ss Constant && (agrees_on v ss v && agrees_on_each v ss ss))
      (number_tested (out-Value v) t.sum (sym (is_meaning v) ∙ e ∙ t.is))
      (and_from (agrees_at v ss Constant) (agrees_on v ss v && agrees_on_each v ss ss) (at_place all Constant)
      (and_from (agrees_on v ss v) (agrees_on_each v ss ss) (at_layer all (out-Value v)) (at_each all ss)))

  -- where the sum is what is stated
  pub total_tested : (x : Val) → IsTotal x ss → (is_total v ss ≡ true) ↔ (meaning v ≡ x)
  total_tested x t = (of_total x t, to_total x t)
