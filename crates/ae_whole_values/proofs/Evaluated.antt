-- The constant of the value of an integer is the one that its linear form has, where each opaque term counts as the constant of its value.
use Rattle.std.specs.Prelude.{ℕ, zero, suc, ℤ, ◌<◌, Bool, true, false, cond, ◌||◌, ◌&&◌, List, [], ◌∷◌, ◌≡◌, length, map, slice_get, Some, None}
use Rattle.std.specs.List.{AllByRecursion}
use Rattle.std.proofs.Common.{refl, sym, ap, ◌∙◌, arith}
use Rattle.std.proofs.lemmas.Bool.{and_parts}
use Rattle.std.proofs.lemmas.Option.{same_Some, slice_get_within}
use Rattle.ae_base.specs.Decided.{pick}
use Rattle.ae_base.specs.Options.{all_known}
use Rattle.ae_base.proofs.Decided.{pick_yes, pick_no, decided_of, decided_yes}
use Rattle.ae_base.proofs.ListFacts.{value_at}
use Rattle.ae_base.proofs.Options.{when_some}
use Rattle.ae_math.specs.Fractions.{ℚ, zero_ℚ, one_ℚ, neg_ℚ, ◌+ℚ◌, ◌*ℚ◌, ratio}
use Rattle.ae_math.specs.Forms.{Form, single, plus, minus, scale, value}
use Rattle.ae_math.proofs.FractionLaws.{one_mul_q}
use Rattle.ae_math.proofs.FormLaws.{value-plus, value-scale, value-number, value-single}
use Rattle.ae_core.specs.Decided.{Term_discrete, Sort_discrete, Sorts_discrete}
use Rattle.ae_core.specs.Inner.Induction.{by_terms}
use Rattle.ae_core.specs.Sorts.{sort_of, same_sort, same_sorts, is_numeric, operands, on_real}
use Rattle.ae_core.specs.declared.problems.Signature.{Signature}
use Rattle.ae_core.specs.declared.terms.Sort.{Sort, Int, Real}
use Rattle.ae_core.specs.declared.terms.Op.{Op}
use Rattle.ae_core.specs.declared.terms.Op.TheVariants as op
use Rattle.ae_core.specs.declared.terms.Head.{Head}
use Rattle.ae_core.specs.declared.terms.Head.TheVariants as head
use Rattle.ae_core.specs.declared.terms.Term.{Term, Bound, Num, Fresh, Apply}
use Rattle.ae_core.proofs.ClosedSorts.{applied_is}
use Rattle.ae_rules.specs.Linear.{form, is_number}
use Rattle.ae_rules.proofs.LinearLaws.{form-Apply, form-Bound, form-Num, form-Fresh, int_sum, int_difference, int_negation, int_product}
use Rattle.ae_num.specs.Forms.{meaning}
use Rattle.ae_num.specs.declared.forms.Lin.{Lin}
use Rattle.ae_num.specs.declared.forms.Value.{Value, Value-F, Number, out-Value}
use Rattle.ae_num.specs.declared.forms.Value.TheOpen as layer
use Rattle.ae_num.specs.declared.forms.Value.TheVariants.{outs-Number}
use Rattle.ae_journal.specs.Systems.{IsName, IsNamed}
use Rattle.ae_journal.specs.declared.systems.System.{System}
use Rattle.ae_store.specs.Terms.{HasOneName}
use Rattle.ae_settled.specs.Valued.{AreValues, HasValue, linear_form}
use Rattle.ae_whole_values.specs.Wholes.{HaveArguments}
use Rattle.ae_whole_values.proofs.WholeForms.{two_sorted, one_sorted}

-- ---- constants of values
abbrev constant_of : Value-F Value → ℚ
constant_of (layer.Number f) = ratio f.constant f.den
constant_of (layer.Leaf n) = zero_ℚ
constant_of (layer.Fields vs) = zero_ℚ

-- that of the value at the place of a term
abbrev constant_in : List Term → List Value → Term → ℚ
constant_in [] vs t = zero_ℚ
constant_in (u ∷ us) [] t = zero_ℚ
constant_in (u ∷ us) (v ∷ vs) t = pick (Term_discrete u t) (constant_of (out-Value v)) (constant_in us vs t)

constant_at : (us : List Term) (vs : List Value) → HasOneName us → (n : ℕ) (t : Term) (v : Value) → slice_get us n ≡ Some t → slice_get vs n ≡ Some v → constant_in us vs t ≡ constant_of (out-Value v)
constant_at [] vs one n t v e f = absurd (cc)
constant_at (u ∷ us) [] one n t v e f = absurd (cc)
constant_at (u ∷ us) (w ∷ vs) one zero t v e f =
    pick_yes (Term_discrete u t) (constant_of (out-Value w)) (constant_in us vs t) (same_Some u t e) ∙ ap (λ (z : Value). constant_of (out-Value z)) (same_Some w v f)
constant_at (u ∷ us) (w ∷ vs) one (suc n) t v e f =
    let apart : ¬ (u ≡ t) = λ d. (let z : 0 ≡ suc n = one 0 (suc n) t (ap (λ (x : Term). Some x) d) e in omega (arith, z)) in
    pick_no (Term_discrete u t) (constant_of (out-Value w)) (constant_in us vs t) apart
    ∙ constant_at us vs (λ i j s a b. (let z : suc i ≡ suc j = one (suc i) (suc j) s a b in omega (arith, z))) n t v e f

pub int_numeric : is_numeric Int ≡ true
int_numeric = ap (λ b. b || same_sort Int Real) (decided_of (Sort_discrete Int Int) refl)

-- ---- the values of names
module _ (sig : Signature) (y : System) (one : HasOneName y.names) (arguments : HaveArguments y) (values : AreValues sig y) where
  pub g : Term → ℚ
  g = constant_in y.names y.values

  pub constant_is : (n : ℕ) (t : Term) (f : Lin) → IsName y n t → slice_get y.values n ≡ Some (Number f) → g t ≡ ratio f.constant f.den
  unfolding g
  constant_is n t f e v = constant_at y.names y.values one n t (Number f) e v ∙ ap constant_of (outs-Number f)

  pub number_there : (n : ℕ) (t : Term) → IsName y n t → sort_of sig t ≡ Some Int → (f : Lin) × (slice_get y.values n ≡ Some (Number f))
  number_there n t e o =
      let l : n < length y.names = slice_get_within y.names n t e in
      let w = value_at y.values n (omega (arith, l, values.one_each)) in
      let h = values.numbers n t Int w.0 e o w.1 int_numeric in
      (h.form, w.1 ∙ ap (λ (v : Value). Some v) h.is)

  abbrev IsLinear : Term → Type 0
  IsLinear t = (n : ℕ) → IsName y n t → sort_of sig t ≡ Some Int → g t ≡ value g one_ℚ (form t)

  opaque_case : (t : Term) → form t ≡ single t → IsLinear t
  opaque_case t e n a s = sym (value-single g one_ℚ t) ∙ ap (value g one_ℚ) (sym e)

  numeral : (a b : ℤ) (real : Bool) → IsLinear (Num a b real)
  numeral a b real n e s =
      let f = number_there n (Num a b real) e s in
      let same = values.numerals n a b real f.0 e f.1 in
      constant_is n (Num a b real) f.0 e f.1 ∙ same.constants ∙ sym (value-number g one_ℚ (ratio a b) ∙ one_mul_q (ratio a b)) ∙ ap (value g one_ℚ) (sym (form-Num a b real))

  -- an argument with its number
  record IsCounted (t : Term) : Type 0 where
    name : ℕ
    is : IsName y name t
    lin : Lin
    value_is : slice_get y.values name ≡ Some (Number lin)
    constant : (meaning lin).constant ≡ value g one_ℚ (form t)

  counted : (t : Term) → IsNamed y t → sort_of sig t ≡ Some Int → IsLinear t → IsCounted t
  counted t m s p = let f = number_there m.0 t m.1 s in record { name = m.0; is = m.1; lin = f.0; value_is = f.1; constant = sym (constant_is m.0 t f.0 m.1 f.1) ∙ p m.0 m.1 s }

  has : (t : Term) (c : IsCounted t) → HasValue y t (Number c.lin)
  has t c = record { name = c.name; is = c.is; value = c.value_is }

  -- ---- operations on two numbers
  module _ (o : Op) (ss : List Sort) (a b : Term) (n : ℕ) (e : IsName y n (Apply (head.Int o) ss (a ∷ b ∷ []))) (s : sort_of sig (Apply (head.Int o) ss (a ∷ b ∷ [])) ≡ Some Int) (u : IsCounted a) (v : IsCounted b)
    where
      made : (r : Form ℕ) → linear_form (head.Int o) ((a, meaning u.lin) ∷ (b, meaning v.lin) ∷ []) ≡ Some r → g (Apply (head.Int o) ss (a ∷ b ∷ [])) ≡ r.constant
      made r l =
          let t = Apply (head.Int o) ss (a ∷ b ∷ []) in
          let f = number_there n t e s in
          let same = values.operations n (head.Int o) ss (a ∷ b ∷ []) (u.lin ∷ v.lin ∷ []) f.0 r e f.1 (has a u, (has b v, tt)) l in
          constant_is n t f.0 e f.1 ∙ same.constants

  sum_linear : (ss : List Sort) (a b : Term) (n : ℕ) → IsName y n (Apply (head.Int op.Add) ss (a ∷ b ∷ [])) → sort_of sig (Apply (head.Int op.Add) ss (a ∷ b ∷ [])) ≡ Some Int → IsCounted a → IsCounted b
      → g (Apply (head.Int op.Add) ss (a ∷ b ∷ [])) ≡ value g one_ℚ (form (Apply (head.Int op.Add) ss (a ∷ b ∷ [])))
  sum_linear ss a b n e s u v =
      made op.Add ss a b n e s u v (plus (meaning u.lin) (meaning v.lin)) refl ∙ (λ i. u.constant i +ℚ v.constant i) ∙ sym (value-plus g one_ℚ (form a) (form b)) ∙ ap (value g one_ℚ) (sym (int_sum ss a b))

  difference_linear : (ss : List Sort) (a b : Term) (n : ℕ) → IsName y n (Apply (head.Int op.Sub) ss (a ∷ b ∷ [])) → sort_of sig (Apply (head.Int op.Sub) ss (a ∷ b ∷ [])) ≡ Some Int → IsCounted a → IsCounted b
      → g (Apply (head.Int op.Sub) ss (a ∷ b ∷ [])) ≡ value g one_ℚ (form (Apply (head.Int op.Sub) ss (a ∷ b ∷ [])))
  difference_linear ss a b n e s u v =
      made op.Sub ss a b n e s u v (minus (meaning u.lin) (meaning v.lin)) refl
      ∙ (λ i. u.constant i +ℚ (ap (λ (z : ℚ). neg_ℚ one_ℚ *ℚ z) v.constant ∙ sym (value-scale g one_ℚ (neg_ℚ one_ℚ) (form b))) i)
      ∙ sym (value-plus g one_ℚ (form a) (scale (neg_ℚ one_ℚ) (form b))) ∙ ap (value g one_ℚ) (sym (int_difference ss a b))

  product_linear : (ss : List Sort) (a b : Term) (n : ℕ) → IsName y n (Apply (head.Int op.Mul) ss (a ∷ b ∷ [])) → sort_of sig (Apply (head.Int op.Mul) ss (a ∷ b ∷ [])) ≡ Some Int → IsCounted a → IsCounted b
      → g (Apply (head.Int op.Mul) ss (a ∷ b ∷ [])) ≡ value g one_ℚ (form (Apply (head.Int op.Mul) ss (a ∷ b ∷ [])))
  product_linear ss a b n e s u v = by_factors (is_number (form a)) (is_number (form b)) refl refl ∙ ap (value g one_ℚ) (sym (int_product ss a b))
    where
      by_factors : (x z : Bool) → x ≡ is_number (form a) → z ≡ is_number (form b)
          → g (Apply (head.Int op.Mul) ss (a ∷ b ∷ [])) ≡ value g one_ℚ (cond x (scale (form a).constant (form b)) (cond z (scale (form b).constant (form a)) (single (Apply (head.Int op.Mul) ss (a ∷ b ∷ [])))))
      by_factors true z p q =
          let ka : ℚ = (form a).constant in
          let kb : ℚ = (form b).constant in
          let ma : Form ℕ = meaning u.lin in
          let mb : Form ℕ = meaning v.lin in
          made op.Mul ss a b n e s u v (scale ka mb) (ap (λ (x : Bool). cond x (Some (scale ka mb)) (cond (is_number (form b)) (Some (scale kb ma)) None)) (sym p)) ∙ ap (λ (w : ℚ). ka *ℚ w) v.constant ∙ sym (value-scale g one_ℚ ka (form b))
      by_factors false true p q =
          let ka : ℚ = (form a).constant in
          let kb : ℚ = (form b).constant in
          let ma : Form ℕ = meaning u.lin in
          let mb : Form ℕ = meaning v.lin in
          made op.Mul ss a b n e s u v (scale kb ma) (λ i. cond (sym p i) (Some (scale ka mb)) (cond (sym q i) (Some (scale kb ma)) None)) ∙ ap (λ (w : ℚ). kb *ℚ w) u.constant ∙ sym (value-scale g one_ℚ kb (form a))
      by_factors false false p q = sym (value-single g one_ℚ (Apply (head.Int op.Mul) ss (a ∷ b ∷ [])))

  negation_linear : (ss : List Sort) (a : Term) (n : ℕ) → IsName y n (Apply (head.Int op.Neg) ss (a ∷ [])) → sort_of sig (Apply (head.Int op.Neg) ss (a ∷ [])) ≡ Some Int → IsCounted a
      → g (Apply (head.Int op.Neg) ss (a ∷ [])) ≡ value g one_ℚ (form (Apply (head.Int op.Neg) ss (a ∷ [])))
  negation_linear ss a n e s u =
      let t = Apply (head.Int op.Neg) ss (a ∷ []) in
      let f = number_there n t e s in
      let same = values.operations n (head.Int op.Neg) ss (a ∷ []) (u.lin ∷ []) f.0 (scale (neg_ℚ one_ℚ) (meaning u.lin)) e f.1 (has a u, tt) refl in
      constant_is n t f.0 e f.1 ∙ same.constants ∙ ap (λ (w : ℚ). neg_ℚ one_ℚ *ℚ w) u.constant ∙ sym (value-scale g one_ℚ (neg_ℚ one_ℚ) (form a)) ∙ ap (value g one_ℚ) (sym (int_negation ss a))

  -- ---- applications
  other : (h : Head) (ss : List Sort) (us : List Term) → form (Apply h ss us) ≡ single (Apply h ss us) → IsLinear (Apply h ss us)
  other h ss us e = opaque_case (Apply h ss us) e

  first_of : (h : Head) (ss : List Sort) (a b : Term) (n : ℕ) → IsName y n (Apply h ss (a ∷ b ∷ [])) → all_known (map (sort_of sig) (a ∷ b ∷ [])) ≡ Some (Int ∷ Int ∷ []) → IsLinear a → IsCounted a
  first_of h ss a b n e k p = counted a (arguments n h ss (a ∷ b ∷ []) e).0 (two_sorted sig a b k).0 p

  second_of : (h : Head) (ss : List Sort) (a b : Term) (n : ℕ) → IsName y n (Apply h ss (a ∷ b ∷ [])) → all_known (map (sort_of sig) (a ∷ b ∷ [])) ≡ Some (Int ∷ Int ∷ []) → IsLinear b → IsCounted b
  second_of h ss a b n e k p = counted b ((arguments n h ss (a ∷ b ∷ []) e).1).0 (two_sorted sig a b k).1 p

  operation : (o : Op) (ss : List Sort) (us : List Term) → AllByRecursion IsLinear us → all_known (map (sort_of sig) us) ≡ Some (operands o (Int ∷ [])) → IsLinear (Apply (head.Int o) ss us)
  operation op.Add ss (a ∷ b ∷ []) all k = λ n e s. sum_linear ss a b n e s (first_of (head.Int op.Add) ss a b n e k all.0) (second_of (head.Int op.Add) ss a b n e k (all.1).0)
  operation op.Sub ss (a ∷ b ∷ []) all k = λ n e s. difference_linear ss a b n e s (first_of (head.Int op.Sub) ss a b n e k all.0) (second_of (head.Int op.Sub) ss a b n e k (all.1).0)
  operation op.Mul ss (a ∷ b ∷ []) all k = λ n e s. product_linear ss a b n e s (first_of (head.Int op.Mul) ss a b n e k all.0) (second_of (head.Int op.Mul) ss a b n e k (all.1).0)
  operation op.Neg ss (a ∷ []) all k = λ n e s. negation_linear ss a n e s (counted a (arguments n (head.Int op.Neg) ss (a ∷ []) e).0 (one_sorted sig a k) all.0)
  operation op.Add ss [] all k = other (head.Int op.Add) ss [] (form-Apply (head.Int op.Add) ss [])
  operation op.Add ss (a ∷ []) all k = other (head.Int op.Add) ss (a ∷ []) (form-Apply (head.Int op.Add) ss (a ∷ []))
  operation op.Add ss (a ∷ b ∷ c ∷ us) all k = other (head.Int op.Add) ss (a ∷ b ∷ c ∷ us) (form-Apply (head.Int op.Add) ss (a ∷ b ∷ c ∷ us))
  operation op.Sub ss [] all k = other (head.Int op.Sub) ss [] (form-Apply (head.Int op.Sub) ss [])
  operation op.Sub ss (a ∷ []) all k = other (head.Int op.Sub) ss (a ∷ []) (form-Apply (head.Int op.Sub) ss (a ∷ []))
  operation op.Sub ss (a ∷ b ∷ c ∷ us) all k = other (head.Int op.Sub) ss (a ∷ b ∷ c ∷ us) (form-Apply (head.Int op.Sub) ss (a ∷ b ∷ c ∷ us))
  operation op.Mul ss [] all k = other (head.Int op.Mul) ss [] (form-Apply (head.Int op.Mul) ss [])
  operation op.Mul ss (a ∷ []) all k = other (head.Int op.Mul) ss (a ∷ []) (form-Apply (head.Int op.Mul) ss (a ∷ []))
  operation op.Mul ss (a ∷ b ∷ c ∷ us) all k = other (head.Int op.Mul) ss (a ∷ b ∷ c ∷ us) (form-Apply (head.Int op.Mul) ss (a ∷ b ∷ c ∷ us))
  operation op.Neg ss [] all k = other (head.Int op.Neg) ss [] (form-Apply (head.Int op.Neg) ss [])
  operation op.Neg ss (a ∷ b ∷ us) all k = other (head.Int op.Neg) ss (a ∷ b ∷ us) (form-Apply (head.Int op.Neg) ss (a ∷ b ∷ us))
  operation op.Div ss us all k = other (head.Int op.Div) ss us (form-Apply (head.Int op.Div) ss us)
  operation op.Mod ss us all k = other (head.Int op.Mod) ss us (form-Apply (head.Int op.Mod) ss us)

  int_applied : (o : Op) (ss : List Sort) (us : List Term) → AllByRecursion IsLinear us → IsLinear (Apply (head.Int o) ss us)
  int_applied o ss us all n e s =
      let a = applied_is sig (head.Int o) ss us Int s in
      let w = when_some (same_sorts ss [] && same_sorts a.args (operands o (Int ∷ []))) Int Int a.is in
      let b = and_parts (same_sorts ss []) (same_sorts a.args (operands o (Int ∷ []))) w.0 in
      operation o ss us all (a.are ∙ ap (λ (z : List Sort). Some z) (decided_yes (Sorts_discrete a.args (operands o (Int ∷ []))) b.1)) n e s

  real_applied : (o : Op) (ss : List Sort) (us : List Term) → IsLinear (Apply (head.Real o) ss us)
  real_applied o ss us n e s =
      let a = applied_is sig (head.Real o) ss us Int s in
      let w = when_some (on_real o && same_sorts ss [] && same_sorts a.args (operands o (Real ∷ []))) Real Int a.is in
      let d : Real ≡ Int = w.1 in
      absurd (cc d)

  applied : (h : Head) (ss : List Sort) (us : List Term) → AllByRecursion IsLinear us → IsLinear (Apply h ss us)
  applied (head.Int o) ss us all = int_applied o ss us all
  applied (head.Real o) ss us all = real_applied o ss us
  applied (head.Symbol k) ss us all = other (head.Symbol k) ss us (form-Apply (head.Symbol k) ss us)
  applied (head.Build k) ss us all = other (head.Build k) ss us (form-Apply (head.Build k) ss us)
  applied (head.Field k place) ss us all = other (head.Field k place) ss us (form-Apply (head.Field k place) ss us)
  applied head.True ss us all = other head.True ss us (form-Apply head.True ss us)
  applied head.False ss us all = other head.False ss us (form-Apply head.False ss us)
  applied head.Void ss us all = other head.Void ss us (form-Apply head.Void ss us)

  -- of each name of integers
  pub evaluated : (t : Term) → IsLinear t
  evaluated = by_terms IsLinear (λ n. opaque_case (Bound n) (form-Bound n)) numeral (λ n s. opaque_case (Fresh n s) (form-Fresh n s)) applied
