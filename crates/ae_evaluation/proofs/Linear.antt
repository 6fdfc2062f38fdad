-- The value of a term is that of its linear form: each coordinate of a value is linear.
use Rattle.std.specs.Prelude.{ℕ, ℤ, pos, Bool, true, false, cond, List, [], ◌∷◌, ◌++◌, ◌≡◌, ◌≢◌, map, Option, Some, None}
use Rattle.std.specs.List.{AllByRecursion}
use mathlib.Core.Path.{refl, sym, ap, ◌∙◌}
use Rattle.ae_math.specs.Fractions.{ℚ, zero_ℚ, one_ℚ, neg_ℚ, inverse_ℚ, ◌+ℚ◌, ◌*ℚ◌, ratio, whole}
use Rattle.ae_math.proofs.FractionLaws.{one_mul_q, mul_comm_q, mul_zero_q}
use Rattle.ae_core.specs.Inner.Induction.{by_terms}
use Rattle.ae_base.specs.Options.{or_else}
use Rattle.ae_rules.specs.Linear.{Linear, form, applied, is_number, over, IsSame}
use Rattle.ae_math.specs.Forms.{is_zero, number, single, plus, scale, value}
use Rattle.ae_rules.specs.Lines.{Fact, equal, gap, total}
use Rattle.ae_rules.proofs.LinearLaws.{form-Apply, form-Bound, form-Num, form-Fresh, lin_respects}
use Rattle.ae_math.proofs.FormLaws.{value-plus, value-scale, value-number, value-single}
use Rattle.ae_core.specs.declared.terms.Sort.{Sort, Int}
use Rattle.ae_core.specs.declared.terms.Term.{Term, Bound, Num, Fresh, Apply, Apply', para-roll-Term}
use Rattle.ae_core.specs.declared.terms.Term.TheOpen as layer
use Rattle.ae_core.specs.declared.terms.Term.TheVariants.{rolls-Apply, rolls-Bound, rolls-Fresh, rolls-Num}
use Rattle.ae_core.specs.declared.terms.Head.{Head}
use Rattle.ae_core.specs.declared.terms.Head.TheVariants as head
use Rattle.ae_core.specs.declared.terms.Op.TheVariants as op
use Rattle.ae_core.specs.declared.problems.Signature.{Signature}
use Rattle.ae_journal.specs.Values.{Val, Sum, number as number_val, leaf_factor, scaled, sum_in, constant_val, plus_val, minus_val, nothing, scale_val}
use Rattle.ae_journal.specs.Systems.{linear, quotient}
use Rattle.ae_journal.specs.Keys.{Numbering, constant}
use Rattle.ae_journal.specs.Evaluation.{ev, ev_step, applied_value, new, result_sort, value_of}
use Rattle.ae_evaluation.specs.Shapes.{IsNumber}
use Rattle.ae_evaluation.proofs.Sums.{factor-settled, factor-append, factor-scaled, one_sum}
use Rattle.ae_journal.specs.declared.systems.System.{System}

-- a coordinate of values: the factor of a leaf, or the constant
pub record Coordinate (c : Val → ℚ) (unit : ℚ) : Type 0 where
  pub of_number : (x : ℚ) → c (constant_val x) ≡ unit *ℚ x
  pub of_plus : (v w : Val) → c (plus_val v w) ≡ c v +ℚ c w
  pub of_scale : (x : ℚ) (v : Val) → c (scale_val x v) ≡ x *ℚ c v

abbrev pub factor_at : ℕ → Val → ℚ
factor_at j v = leaf_factor (sum_in v).parts j

abbrev pub constant_of : Val → ℚ
constant_of v = (sum_in v).constant

zero_times : (x : ℚ) → zero_ℚ *ℚ x ≡ zero_ℚ
zero_times x = mul_comm_q _ _ ∙ mul_zero_q x

pub factor_coordinate : (j : ℕ) → Coordinate (factor_at j) zero_ℚ
factor_coordinate j = record {
  of_number = λ x. sym (zero_times x);
  of_plus = λ v w. factor-settled ((sum_in v).parts ++ (sum_in w).parts) j ∙ factor-append (sum_in v).parts (sum_in w).parts j;
  of_scale = λ x v. factor-settled (scaled x (sum_in v).parts) j ∙ factor-scaled x (sum_in v).parts j;
}

pub constant_coordinate : Coordinate constant_of one_ℚ
constant_coordinate = record {
  of_number = λ x. sym (one_mul_q x);
  of_plus = λ v w. refl;
  of_scale = λ x v. refl;
}

pub firsts : {A : Type 0} (f : Term → A) (ts : List Term) → map {A = Term × A} (λ a. a.0) (map (λ t. (t, f t)) ts) ≡ ts
firsts f [] = refl
firsts f (t ∷ ts) = ap (λ us. t ∷ us) (firsts f ts)

pub seconds : {A : Type 0} (f : Term → A) (ts : List Term) → map {A = Term × A} (λ a. a.1) (map (λ t. (t, f t)) ts) ≡ map f ts
seconds f [] = refl
seconds f (t ∷ ts) = ap (λ us. f t ∷ us) (seconds f ts)

module _ (sig : Signature) (y : System) (num : Numbering) (reduce : Head → List Sort → List ℕ → List ℕ) (choosing : Bool)
    (assigned : ℕ → Sort → Option Val) where
  value_of_term : Term → Val
  value_of_term = ev sig y num reduce choosing assigned

  abbrev pub rest_of : Head → List Sort → List Term → Val
  rest_of h ss ts =
      applied_value sig y num reduce choosing h ss (or_else (result_sort sig h ss) Int) (map (ev sig y num reduce choosing assigned) ts)

  -- the value of an application, from the values of its arguments
  pub ev-Apply : (h : Head) (ss : List Sort) (ts : List Term)
      → ev sig y num reduce choosing assigned (Apply h ss ts) ≡ or_else
      (linear h (map (λ t. (t, ev sig y num reduce choosing assigned t)) ts)) (rest_of h ss ts)
  unfolding ev
  ev-Apply h ss ts =
      ap (ev sig y num reduce choosing assigned) (sym (rolls-Apply h ss ts)) ∙ para-roll-Term Val
      (ev_step sig y num reduce choosing assigned) (layer.Apply h ss ts)
      ∙ (λ i. or_else (linear h (map (λ t. (t, ev sig y num reduce choosing assigned t)) ts))
      (applied_value sig y num reduce choosing h ss (or_else (result_sort sig h ss) Int)
      (seconds (ev sig y num reduce choosing assigned) ts i)))

  pub ev-Bound : (n : ℕ) → ev sig y num reduce choosing assigned (Bound n) ≡ nothing
  unfolding ev
  ev-Bound n =
      ap (ev sig y num reduce choosing assigned) (sym (rolls-Bound n))
      ∙ para-roll-Term Val (ev_step sig y num reduce choosing assigned) (layer.Bound n)

  pub ev-Fresh : (n : ℕ) (s : Sort)
      → ev sig y num reduce choosing assigned (Fresh n s) ≡ or_else (assigned n s)
      (or_else (value_of sig y num reduce choosing (Fresh n s)) (new sig y num reduce choosing s (constant n s)))
  unfolding ev
  ev-Fresh n s =
      ap (ev sig y num reduce choosing assigned) (sym (rolls-Fresh n s))
      ∙ para-roll-Term Val (ev_step sig y num reduce choosing assigned) (layer.Fresh n s)

  pub ev-Num : (a b : ℤ) (r : Bool) → ev sig y num reduce choosing assigned (Num a b r) ≡ constant_val (ratio a b)
  unfolding ev
  ev-Num a b r =
      ap (ev sig y num reduce choosing assigned) (sym (rolls-Num a b r))
      ∙ para-roll-Term Val (ev_step sig y num reduce choosing assigned) (layer.Num a b r)

  module _ (c : Val → ℚ) (unit : ℚ) (laws : Coordinate c unit) where
    g : Term → ℚ
    g t = c (ev sig y num reduce choosing assigned t)

    abbrev pub IsLinear : Term → Type 0
    IsLinear t = c (ev sig y num reduce choosing assigned t) ≡ value (λ u. c (ev sig y num reduce choosing assigned u)) unit (form t)

    value_opaque : (t : Term)
        → c (ev sig y num reduce choosing assigned t) ≡ value (λ u. c (ev sig y num reduce choosing assigned u)) unit (single t)
    value_opaque t = sym (value-single (λ u. c (ev sig y num reduce choosing assigned u)) unit t)

    value_number : (x : ℚ) → unit *ℚ x ≡ value (λ u. c (ev sig y num reduce choosing assigned u)) unit (number x)
    value_number x = sym (value-number (λ u. c (ev sig y num reduce choosing assigned u)) unit x)

    sum_case : (w a b : Term)
        → ev sig y num reduce choosing assigned w ≡ plus_val (ev sig y num reduce choosing assigned a)
        (ev sig y num reduce choosing assigned b)
        → IsLinear a → IsLinear b
        → c (ev sig y num reduce choosing assigned w) ≡ value (λ u. c (ev sig y num reduce choosing assigned u)) unit
        (plus (form a) (form b))
    sum_case w a b e p q = ap c e ∙ laws.of_plus _ _ ∙ (λ i. p i +ℚ q i) ∙ sym (value-plus _ unit (form a) (form b))

    scale_case : (w b : Term) (x : ℚ) → ev sig y num reduce choosing assigned w ≡ scale_val x (ev sig y num reduce choosing assigned b)
        → IsLinear b
        → c (ev sig y num reduce choosing assigned w) ≡ value (λ u. c (ev sig y num reduce choosing assigned u)) unit (scale x (form b))
    scale_case w b x e q = ap c e ∙ laws.of_scale x _ ∙ ap (λ z. x *ℚ z) q ∙ sym (value-scale _ unit x (form b))

    minus_case : (w a b : Term)
        → ev sig y num reduce choosing assigned w ≡ minus_val (ev sig y num reduce choosing assigned a)
        (ev sig y num reduce choosing assigned b)
        → IsLinear a → IsLinear b
        → c (ev sig y num reduce choosing assigned w) ≡ value (λ u. c (ev sig y num reduce choosing assigned u)) unit
        (plus (form a) (scale (neg_ℚ one_ℚ) (form b)))
    minus_case w a b e p q =
        ap c e ∙ laws.of_plus _ _ ∙
        (λ i. p i +ℚ (laws.of_scale (neg_ℚ one_ℚ) (ev sig y num reduce choosing assigned b) ∙ ap (λ z. neg_ℚ one_ℚ *ℚ z) q ∙ sym
        (value-scale _ unit (neg_ℚ one_ℚ) (form b))) i)
        ∙ sym (value-plus _ unit (form a) (scale (neg_ℚ one_ℚ) (form b)))

    product_case : (w a b : Term) (p q : Bool) (rest : Val)
        → ev sig y num reduce choosing assigned w ≡ or_else
        (cond p (Some (scale_val (form a).constant (ev sig y num reduce choosing assigned b)))
        (cond q (Some (scale_val (form b).constant (ev sig y num reduce choosing assigned a))) None)) rest
        → IsLinear a → IsLinear b
        → c (ev sig y num reduce choosing assigned w) ≡ value (λ u. c (ev sig y num reduce choosing assigned u)) unit
        (cond p (scale (form a).constant (form b)) (cond q (scale (form b).constant (form a)) (single w)))
    product_case w a b true q rest e m n = scale_case w b (form a).constant e n
    product_case w a b false true rest e m n = scale_case w a (form b).constant e m
    product_case w a b false false rest e m n = value_opaque w

    zero_case : (w a : Term) (x : ℚ) (z : Bool) (rest : Val)
        → ev sig y num reduce choosing assigned w ≡ or_else
        (cond z None (Some (scale_val x (ev sig y num reduce choosing assigned a)))) rest
        → IsLinear a
        → c (ev sig y num reduce choosing assigned w) ≡ value (λ u. c (ev sig y num reduce choosing assigned u)) unit
        (cond z (single w) (scale x (form a)))
    zero_case w a x true rest e m = value_opaque w
    zero_case w a x false rest e m = scale_case w a x e m

    over_case : (w a b : Term) (rest : Val)
        → ev sig y num reduce choosing assigned w ≡ or_else (quotient (ev sig y num reduce choosing assigned a) b) rest → IsLinear a
        → c (ev sig y num reduce choosing assigned w) ≡ value (λ u. c (ev sig y num reduce choosing assigned u)) unit (over w (form a) b)
    over_case w a (Bound n) rest e m = value_opaque w
    over_case w a (Num p q r) rest e m = zero_case w a (inverse_ℚ (ratio p q)) (is_zero (ratio p q)) rest e m
    over_case w a (Fresh n s) rest e m = value_opaque w
    over_case w a (Apply' h ss shape row) rest e m = value_opaque w

    applied_case : (h : Head) (ss : List Sort) (ts : List Term) → AllByRecursion IsLinear ts
        → c (ev sig y num reduce choosing assigned (Apply h ss ts)) ≡ value (λ u. c (ev sig y num reduce choosing assigned u)) unit
        (applied (Apply h ss ts) h (map (λ t. (t, form t)) ts))
    applied_case (head.Symbol n) ss ts is = value_opaque (Apply (head.Symbol n) ss ts)
    applied_case (head.Build n) ss ts is = value_opaque (Apply (head.Build n) ss ts)
    applied_case (head.Field n i) ss ts is = value_opaque (Apply (head.Field n i) ss ts)
    applied_case head.True ss ts is = value_opaque (Apply head.True ss ts)
    applied_case head.False ss ts is = value_opaque (Apply head.False ss ts)
    applied_case head.Void ss ts is = value_opaque (Apply head.Void ss ts)
    applied_case (head.Int op.Add) ss [] is = value_opaque (Apply (head.Int op.Add) ss [])
    applied_case (head.Int op.Add) ss (a ∷ []) is = value_opaque (Apply (head.Int op.Add) ss (a ∷ []))
    applied_case (head.Int op.Add) ss (a ∷ b ∷ []) is =
        sum_case (Apply (head.Int op.Add) ss (a ∷ b ∷ [])) a b (ev-Apply (head.Int op.Add) ss (a ∷ b ∷ [])) is.0 (is.1).0
    applied_case (head.Int op.Add) ss (a ∷ b ∷ d ∷ ts) is = value_opaque (Apply (head.Int op.Add) ss (a ∷ b ∷ d ∷ ts))
    applied_case (head.Int op.Sub) ss [] is = value_opaque (Apply (head.Int op.Sub) ss [])
    applied_case (head.Int op.Sub) ss (a ∷ []) is = value_opaque (Apply (head.Int op.Sub) ss (a ∷ []))
    applied_case (head.Int op.Sub) ss (a ∷ b ∷ []) is =
        minus_case (Apply (head.Int op.Sub) ss (a ∷ b ∷ [])) a b (ev-Apply (head.Int op.Sub) ss (a ∷ b ∷ [])) is.0 (is.1).0
    applied_case (head.Int op.Sub) ss (a ∷ b ∷ d ∷ ts) is = value_opaque (Apply (head.Int op.Sub) ss (a ∷ b ∷ d ∷ ts))
    applied_case (head.Int op.Mul) ss [] is = value_opaque (Apply (head.Int op.Mul) ss [])
    applied_case (head.Int op.Mul) ss (a ∷ []) is = value_opaque (Apply (head.Int op.Mul) ss (a ∷ []))
    applied_case (head.Int op.Mul) ss (a ∷ b ∷ []) is =
        product_case (Apply (head.Int op.Mul) ss (a ∷ b ∷ [])) a b (is_number (form a)) (is_number (form b))
        (rest_of (head.Int op.Mul) ss (a ∷ b ∷ [])) (ev-Apply (head.Int op.Mul) ss (a ∷ b ∷ [])) is.0 (is.1).0
    applied_case (head.Int op.Mul) ss (a ∷ b ∷ d ∷ ts) is = value_opaque (Apply (head.Int op.Mul) ss (a ∷ b ∷ d ∷ ts))
    applied_case (head.Int op.Neg) ss [] is = value_opaque (Apply (head.Int op.Neg) ss [])
    applied_case (head.Int op.Neg) ss (a ∷ []) is =
        scale_case (Apply (head.Int op.Neg) ss (a ∷ [])) a (neg_ℚ one_ℚ) (ev-Apply (head.Int op.Neg) ss (a ∷ [])) is.0
    applied_case (head.Int op.Neg) ss (a ∷ b ∷ ts) is = value_opaque (Apply (head.Int op.Neg) ss (a ∷ b ∷ ts))
    applied_case (head.Int op.Div) ss ts is = value_opaque (Apply (head.Int op.Div) ss ts)
    applied_case (head.Int op.Mod) ss ts is = value_opaque (Apply (head.Int op.Mod) ss ts)
    applied_case (head.Real op.Add) ss [] is = value_opaque (Apply (head.Real op.Add) ss [])
    applied_case (head.Real op.Add) ss (a ∷ []) is = value_opaque (Apply (head.Real op.Add) ss (a ∷ []))
    applied_case (head.Real op.Add) ss (a ∷ b ∷ []) is =
        sum_case (Apply (head.Real op.Add) ss (a ∷ b ∷ [])) a b (ev-Apply (head.Real op.Add) ss (a ∷ b ∷ [])) is.0 (is.1).0
    applied_case (head.Real op.Add) ss (a ∷ b ∷ d ∷ ts) is = value_opaque (Apply (head.Real op.Add) ss (a ∷ b ∷ d ∷ ts))
    applied_case (head.Real op.Sub) ss [] is = value_opaque (Apply (head.Real op.Sub) ss [])
    applied_case (head.Real op.Sub) ss (a ∷ []) is = value_opaque (Apply (head.Real op.Sub) ss (a ∷ []))
    applied_case (head.Real op.Sub) ss (a ∷ b ∷ []) is =
        minus_case (Apply (head.Real op.Sub) ss (a ∷ b ∷ [])) a b (ev-Apply (head.Real op.Sub) ss (a ∷ b ∷ [])) is.0 (is.1).0
    applied_case (head.Real op.Sub) ss (a ∷ b ∷ d ∷ ts) is = value_opaque (Apply (head.Real op.Sub) ss (a ∷ b ∷ d ∷ ts))
    applied_case (head.Real op.Mul) ss [] is = value_opaque (Apply (head.Real op.Mul) ss [])
    applied_case (head.Real op.Mul) ss (a ∷ []) is = value_opaque (Apply (head.Real op.Mul) ss (a ∷ []))
    applied_case (head.Real op.Mul) ss (a ∷ b ∷ []) is =
        product_case (Apply (head.Real op.Mul) ss (a ∷ b ∷ [])) a b (is_number (form a)) (is_number (form b))
        (rest_of (head.Real op.Mul) ss (a ∷ b ∷ [])) (ev-Apply (head.Real op.Mul) ss (a ∷ b ∷ [])) is.0 (is.1).0
    applied_case (head.Real op.Mul) ss (a ∷ b ∷ d ∷ ts) is = value_opaque (Apply (head.Real op.Mul) ss (a ∷ b ∷ d ∷ ts))
    applied_case (head.Real op.Neg) ss [] is = value_opaque (Apply (head.Real op.Neg) ss [])
    applied_case (head.Real op.Neg) ss (a ∷ []) is =
        scale_case (Apply (head.Real op.Neg) ss (a ∷ [])) a (neg_ℚ one_ℚ) (ev-Apply (head.Real op.Neg) ss (a ∷ [])) is.0
    applied_case (head.Real op.Neg) ss (a ∷ b ∷ ts) is = value_opaque (Apply (head.Real op.Neg) ss (a ∷ b ∷ ts))
    applied_case (head.Real op.Div) ss [] is = value_opaque (Apply (head.Real op.Div) ss [])
    applied_case (head.Real op.Div) ss (a ∷ []) is = value_opaque (Apply (head.Real op.Div) ss (a ∷ []))
    applied_case (head.Real op.Div) ss (a ∷ b ∷ []) is =
        over_case (Apply (head.Real op.Div) ss (a ∷ b ∷ [])) a b (rest_of (head.Real op.Div) ss (a ∷ b ∷ []))
        (ev-Apply (head.Real op.Div) ss (a ∷ b ∷ [])) is.0
    applied_case (head.Real op.Div) ss (a ∷ b ∷ d ∷ ts) is = value_opaque (Apply (head.Real op.Div) ss (a ∷ b ∷ d ∷ ts))
    applied_case (head.Real op.Mod) ss ts is = value_opaque (Apply (head.Real op.Mod) ss ts)

    of_form : (f h : Linear) → f ≡ h
        → value (λ u. c (ev sig y num reduce choosing assigned u)) unit f ≡ value (λ u. c (ev sig y num reduce choosing assigned u)) unit h
    of_form f h e = ap (value (λ u. c (ev sig y num reduce choosing assigned u)) unit) e

    -- each term has the value of its linear form
    pub linear_value : (t : Term) → IsLinear t
    linear_value =
        by_terms IsLinear
        (λ n. value_opaque (Bound n) ∙ of_form _ _ (sym (form-Bound n)))
        (λ a b r. ap c (ev-Num a b r) ∙ laws.of_number (ratio a b) ∙ value_number (ratio a b) ∙ of_form _ _ (sym (form-Num a b r)))
        (λ n s. value_opaque (Fresh n s) ∙ of_form _ _ (sym (form-Fresh n s)))
        (λ h ss ts is. applied_case h ss ts is ∙ of_form _ _ (sym (form-Apply h ss ts)))

  -- two terms that a `lin` line equates evaluate alike
  pub lin_alike : (s t : Term) (d : ℤ) (fs : List (ℤ × Fact)) → d ≢ pos 0 → IsSame (scale (whole d) (gap (equal s t))) (total fs)
      → AllByRecursion (λ f. ev sig y num reduce choosing assigned (f.1).left ≡ ev sig y num reduce choosing assigned (f.1).right) fs
      → IsNumber (ev sig y num reduce choosing assigned s) → IsNumber (ev sig y num reduce choosing assigned t)
      → ev sig y num reduce choosing assigned s ≡ ev sig y num reduce choosing assigned t
  lin_alike s t d fs n same h p q =
      let parts : (j : ℕ) → factor_at j (ev sig y num reduce choosing assigned s) ≡ factor_at j (ev sig y num reduce choosing assigned t) =
      λ j. lin_respects (λ u. factor_at j (ev sig y num reduce choosing assigned u)) zero_ℚ
      (linear_value (factor_at j) zero_ℚ (factor_coordinate j)) s t d fs n same (coordinates (factor_at j) fs h) in
      let constants : constant_of (ev sig y num reduce choosing assigned s) ≡ constant_of (ev sig y num reduce choosing assigned t) =
      lin_respects (λ u. constant_of (ev sig y num reduce choosing assigned u)) one_ℚ
      (linear_value constant_of one_ℚ constant_coordinate) s t d fs n same (coordinates constant_of fs h) in
      p.1 ∙ ap number_val (sums_same p.0 q.0
      (one_sum p.0.parts q.0.parts p.2 q.2 (λ j. sym (ap (factor_at j) p.1) ∙ parts j ∙ ap (factor_at j) q.1))
      (sym (ap constant_of p.1) ∙ constants ∙ ap constant_of q.1)) ∙ sym q.1
    where
      coordinates : (c : Val → ℚ) (fs : List (ℤ × Fact))
          → AllByRecursion (λ f. ev sig y num reduce choosing assigned (f.1).left ≡ ev sig y num reduce choosing assigned (f.1).right) fs
          → AllByRecursion (λ f. c (ev sig y num reduce choosing assigned (f.1).left) ≡ c
          (ev sig y num reduce choosing assigned (f.1).right)) fs
      coordinates c [] h = tt
      coordinates c (f ∷ fs) h = (ap c h.0, coordinates c fs h.1)

      sums_same : (f g : Sum) → f.parts ≡ g.parts → f.constant ≡ g.constant → f ≡ g
      sums_same f g e d = λ i. record { parts = e i; constant = d i }
