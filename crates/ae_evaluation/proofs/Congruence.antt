-- Applications of one head to arguments that evaluate alike evaluate alike, where products have a constant factor and quotients a numeral divisor.
use Rattle.std.specs.Prelude.{ℕ, ℤ, Bool, true, false, cond, List, [], ◌∷◌, ◌≡◌, ◌⊎◌, map, Option, Some, None}
use Rattle.std.specs.List.{list_all}
use Rattle.std.proofs.Common.{inl, inr}
use mathlib.Core.Path.{refl, sym, ap, ◌∙◌, subst}
use Rattle.ae_math.specs.Fractions.{ℚ, zero_ℚ, one_ℚ, neg_ℚ, inverse_ℚ, ◌+ℚ◌, ◌*ℚ◌, ℚ_discrete, ratio}
use Rattle.ae_math.proofs.FractionLaws.{zero_add_q, one_mul_q, mul_comm_q, mul_zero_q}
use Rattle.ae_base.specs.Decided.{pick}
use Rattle.ae_core.specs.Decided.{Term_discrete}
use Rattle.ae_base.specs.Options.{or_else}
use Rattle.ae_rules.specs.Linear.{Linear, form, is_number, factor_of, IsSame}
use Rattle.ae_math.specs.Forms.{is_zero, number, factor_in, value}
use Rattle.ae_math.proofs.FormLaws.{value-same}
use Rattle.ae_core.specs.declared.terms.Sort.{Sort, Int}
use Rattle.ae_core.specs.declared.terms.Term.{Term, Num, Apply}
use Rattle.ae_core.specs.declared.terms.Head.{Head}
use Rattle.ae_core.specs.declared.terms.Head.TheVariants as head
use Rattle.ae_core.specs.declared.terms.Op.TheVariants as op
use Rattle.ae_core.specs.declared.problems.Signature.{Signature}
use Rattle.ae_journal.specs.Values.{Val, leaf_factor, number as number_val, constant_val, plus_val, minus_val, scale_val}
use Rattle.ae_journal.specs.Systems.{linear, product, quotient}
use Rattle.ae_journal.specs.Keys.{Numbering}
use Rattle.ae_journal.specs.Evaluation.{ev, applied_value, result_sort}
use Rattle.ae_evaluation.proofs.Facts.{IsNum}
use Rattle.ae_evaluation.specs.Shapes.{IsNumber}
use Rattle.ae_evaluation.proofs.Sums.{one_sum}
use Rattle.ae_evaluation.proofs.Linear.{factor_at, constant_of, factor_coordinate, constant_coordinate, linear_value, ev-Apply, ev-Num}
use Rattle.ae_journal.specs.declared.systems.System.{System}
use Rattle.std.proofs.lemmas.Bool.{and_parts}

-- ---- a constant form has no factor_of
zero_from : (x : ℚ) → is_zero x ≡ true → x ≡ zero_ℚ
zero_from x e = go (ℚ_discrete x zero_ℚ) e
  where
    go : (d : Dec (x ≡ zero_ℚ)) → pick d true false ≡ true → x ≡ zero_ℚ
    go (yes p) e = p
    go (no n) e = absurd (cc)

no_factor : (G : Term → ℚ) (ps : List (Term × ℚ)) (t : Term) → list_all (λ p. is_zero (G p.0)) ps ≡ true
    → (G t ≡ zero_ℚ) ⊎ (factor_in Term_discrete ps t ≡ zero_ℚ)
no_factor G [] t e = inr refl
no_factor G (p ∷ ps) t e =
    let s = and_parts (is_zero (G p.0)) (list_all (λ q. is_zero (G q.0)) ps) e in
    elim (Term_discrete p.0 t) as
    (λ d. (G t ≡ zero_ℚ) ⊎ (pick d (p.1 +ℚ factor_in Term_discrete ps t) (factor_in Term_discrete ps t) ≡ zero_ℚ)) [
      | yes f ↦ inl (ap G (sym f) ∙ zero_from (G p.0) s.0)
      | no n ↦ no_factor G ps t s.1
    ]

pub constant_form : (f : Linear) → is_number f ≡ true → IsSame f (number f.constant)
constant_form f e = record {
  factors = λ t. elim (no_factor (factor_of f) f.parts t e) as (λ _. factor_of f t ≡ zero_ℚ) [ inl p ↦ p | inr p ↦ p ];
  constants = refl;
}

value_of_number : (g : Term → ℚ) (u x : ℚ) → value g u (number x) ≡ u *ℚ x
value_of_number g u x = zero_add_q _

zero_times : (x : ℚ) → zero_ℚ *ℚ x ≡ zero_ℚ
zero_times x = mul_comm_q _ _ ∙ mul_zero_q x

-- two ways to take a product of which one factor_of is constant
product_alike : (p q r w : Bool) (va vb : Val) (ka kb kc kd : ℚ) → (p ≡ true) ⊎ (q ≡ true) → (r ≡ true) ⊎ (w ≡ true)
    → (p ≡ true → va ≡ constant_val ka) → (q ≡ true → vb ≡ constant_val kb) → (r ≡ true → va ≡ constant_val kc)
    → (w ≡ true → vb ≡ constant_val kd)
    → ◌≡◌ {A = Option Val} (cond p (Some (scale_val ka vb)) (cond q (Some (scale_val kb va)) None))
    (cond r (Some (scale_val kc vb)) (cond w (Some (scale_val kd va)) None))
product_alike true q true w va vb ka kb kc kd x y a b c d = ap (λ k. Some (scale_val k vb)) (ap constant_of (sym (a refl) ∙ c refl))
product_alike true q false true va vb ka kb kc kd x y a b c d =
    ap (λ v. Some (scale_val ka v)) (d refl) ∙ ap (λ (k : ℚ). Some (constant_val k)) (mul_comm_q ka kd) ∙ ap (λ v. Some (scale_val kd v))
    (sym (a refl))
product_alike true q false false va vb ka kb kc kd x y a b c d = absurd (elim y as (λ _. ⊥) [ inl e ↦ cc | inr e ↦ cc ])
product_alike false true true w va vb ka kb kc kd x y a b c d =
    ap (λ v. Some (scale_val kb v)) (c refl) ∙ ap (λ (k : ℚ). Some (constant_val k)) (mul_comm_q kb kc) ∙ ap (λ v. Some (scale_val kc v))
    (sym (b refl))
product_alike false true false true va vb ka kb kc kd x y a b c d = ap (λ k. Some (scale_val k va)) (ap constant_of (sym (b refl) ∙ d refl))
product_alike false true false false va vb ka kb kc kd x y a b c d = absurd (elim y as (λ _. ⊥) [ inl e ↦ cc | inr e ↦ cc ])
product_alike false false r w va vb ka kb kc kd x y a b c d = absurd (elim x as (λ _. ⊥) [ inl e ↦ cc | inr e ↦ cc ])

-- a node of a plain term: a product has a constant factor_of, a quotient on `real` a numeral divisor
abbrev pub IsNumeral : Term → Type 0
IsNumeral t = (a : ℤ) × (b : ℤ) × (r : Bool) × (t ≡ Num a b r)

abbrev pub IsPlainNode : Head → List Term → Type 0
IsPlainNode (head.Int op.Mul) (a ∷ b ∷ []) = (is_number (form a) ≡ true) ⊎ (is_number (form b) ≡ true)
IsPlainNode (head.Real op.Mul) (a ∷ b ∷ []) = (is_number (form a) ≡ true) ⊎ (is_number (form b) ≡ true)
IsPlainNode (head.Real op.Div) (a ∷ b ∷ []) = IsNumeral b
IsPlainNode _ _ = Unit {0}

module _ (sig : Signature) (y : System) (num : Numbering) (reduce : Head → List Sort → List ℕ → List ℕ) (choosing : Bool) where
  module _ (assigned : ℕ → Sort → Option Val) where
    -- a term whose form is constant has that constant as its value
    pub constant_value : (t : Term) → is_number (form t) ≡ true → IsNum sig y num reduce choosing assigned t
        → ev sig y num reduce choosing assigned t ≡ constant_val (form t).constant
    constant_value t e n =
        let by : (c : Val → ℚ) (u : ℚ) → value (λ s. c (ev sig y num reduce choosing assigned s)) u (form t) ≡ u *ℚ (form t).constant =
        λ c u. value-same Term_discrete (λ s. c (ev sig y num reduce choosing assigned s)) u (form t) (number (form t).constant)
        (constant_form (form t) e) ∙ value_of_number (λ s. c (ev sig y num reduce choosing assigned s)) u (form t).constant in
        let none : (j : ℕ) → leaf_factor n.0.parts j ≡ zero_ℚ =
        λ j. sym (ap (factor_at j) n.1) ∙ linear_value sig y num reduce choosing assigned (factor_at j) zero_ℚ (factor_coordinate j) t ∙ by
        (factor_at j) zero_ℚ ∙ zero_times (form t).constant in
        let parts : n.0.parts ≡ [] = one_sum n.0.parts [] n.2 tt none in
        let constant : n.0.constant ≡ (form t).constant =
        sym (ap constant_of n.1) ∙ linear_value sig y num reduce choosing assigned constant_of one_ℚ constant_coordinate t
        ∙ by constant_of one_ℚ ∙ one_mul_q (form t).constant in
        n.1 ∙ (λ i. number_val (record { parts = parts i; constant = constant i }))

    abbrev pub valued : List Term → List (Term × Val)
    valued ts = map (λ t. (t, ev sig y num reduce choosing assigned t)) ts

    -- what is asked of the arguments: those of a product are numbers
    abbrev pub AreNumbers : Head → List Term → Type 0
    AreNumbers (head.Int op.Mul) (a ∷ b ∷ []) = IsNum sig y num reduce choosing assigned a × IsNum sig y num reduce choosing assigned b
    AreNumbers (head.Real op.Mul) (a ∷ b ∷ []) = IsNum sig y num reduce choosing assigned a × IsNum sig y num reduce choosing assigned b
    AreNumbers _ _ = Unit {0}

  -- two assignments
  module _ (A B : ℕ → Sort → Option Val) where
    -- arguments that evaluate alike, by how many there are
    pub data Alike : List Term → List Term → Type 0 where
      alike_0 : Alike [] []
      alike_1 : (a c : Term) → ev sig y num reduce choosing A a ≡ ev sig y num reduce choosing B c → Alike (a ∷ []) (c ∷ [])
      alike_2 : (a b c d : Term) → ev sig y num reduce choosing A a ≡ ev sig y num reduce choosing B c
          → ev sig y num reduce choosing A b ≡ ev sig y num reduce choosing B d → Alike (a ∷ b ∷ []) (c ∷ d ∷ [])
      alike_3 : (a b e c d f : Term) (us vs : List Term) → Alike (a ∷ b ∷ e ∷ us) (c ∷ d ∷ f ∷ vs)

    pub from_values : (us vs : List Term) → map (ev sig y num reduce choosing A) us ≡ map (ev sig y num reduce choosing B) vs → Alike us vs
    from_values [] [] e = alike_0
    from_values [] (c ∷ vs) e = absurd (cc)
    from_values (a ∷ us) [] e = absurd (cc)
    from_values (a ∷ []) (c ∷ []) e = let f : ev sig y num reduce choosing A a ≡ ev sig y num reduce choosing B c = cc in alike_1 a c f
    from_values (a ∷ []) (c ∷ d ∷ vs) e = absurd (cc)
    from_values (a ∷ b ∷ us) (c ∷ []) e = absurd (cc)
    from_values (a ∷ b ∷ []) (c ∷ d ∷ []) e =
        let f : ev sig y num reduce choosing A a ≡ ev sig y num reduce choosing B c = cc in
        let g : ev sig y num reduce choosing A b ≡ ev sig y num reduce choosing B d = cc in alike_2 a b c d f g
    from_values (a ∷ b ∷ []) (c ∷ d ∷ f ∷ vs) e = absurd (cc)
    from_values (a ∷ b ∷ e' ∷ us) (c ∷ d ∷ []) e = absurd (cc)
    from_values (a ∷ b ∷ e' ∷ us) (c ∷ d ∷ f ∷ vs) e = alike_3 a b e' c d f us vs

    number_like : (s t : Term) → ev sig y num reduce choosing A s ≡ ev sig y num reduce choosing B t → IsNum sig y num reduce choosing A s
        → IsNum sig y num reduce choosing B t
    number_like s t e n = subst (IsNumber) e n

    products : (a b c d : Term) → ev sig y num reduce choosing A a ≡ ev sig y num reduce choosing B c
        → ev sig y num reduce choosing A b ≡ ev sig y num reduce choosing B d
        → (is_number (form a) ≡ true) ⊎ (is_number (form b) ≡ true) → (is_number (form c) ≡ true) ⊎ (is_number (form d) ≡ true)
        → IsNum sig y num reduce choosing A a × IsNum sig y num reduce choosing A b
        → product (a, ev sig y num reduce choosing A a) (b, ev sig y num reduce choosing A b) ≡ product
        (c, ev sig y num reduce choosing B c) (d, ev sig y num reduce choosing B d)
    products a b c d e f x w n =
        product_alike (is_number (form a)) (is_number (form b)) (is_number (form c)) (is_number (form d)) (ev sig y num reduce choosing A a)
        (ev sig y num reduce choosing A b)
        (form a).constant (form b).constant (form c).constant (form d).constant x w
        (λ p. constant_value A a p n.0) (λ p. constant_value A b p n.1) (λ p. e ∙ constant_value B c p (number_like a c e n.0))
        (λ p. f ∙ constant_value B d p (number_like b d f n.1))
        ∙
        (λ i. cond (is_number (form c)) (Some (scale_val (form c).constant (f i)))
        (cond (is_number (form d)) (Some (scale_val (form d).constant (e i))) None))

    quotients : (v w : Val) (b d : Term) → v ≡ w → ev sig y num reduce choosing A b ≡ ev sig y num reduce choosing B d → IsNumeral b
        → IsNumeral d → quotient v b ≡ quotient w d
    quotients v w b d e f p q =
        let same : ratio p.0 p.1 ≡ ratio q.0 q.1 =
        ap constant_of (sym (ap (ev sig y num reduce choosing A) p.3 ∙ ev-Num sig y num reduce choosing A p.0 p.1 p.2) ∙ f ∙ ap
        (ev sig y num reduce choosing B) q.3 ∙ ev-Num sig y num reduce choosing B q.0 q.1 q.2) in
        ap (quotient v) p.3 ∙ (λ i. cond (is_zero (same i)) None (Some (scale_val (inverse_ℚ (same i)) (e i)))) ∙ ap (quotient w) (sym q.3)

    linear_alike : (h : Head) (us vs : List Term) → Alike us vs → IsPlainNode h us → IsPlainNode h vs → AreNumbers A h us
        → linear h (valued A us) ≡ linear h (valued B vs)
    linear_alike (head.Symbol n) us vs s p q n' = refl
    linear_alike (head.Build n) us vs s p q n' = refl
    linear_alike (head.Field n i) us vs s p q n' = refl
    linear_alike head.True us vs s p q n' = refl
    linear_alike head.False us vs s p q n' = refl
    linear_alike head.Void us vs s p q n' = refl
    linear_alike (head.Int op.Add) _ _ alike_0 p q n' = refl
    linear_alike (head.Int op.Add) _ _ (alike_1 a c e) p q n' = refl
    linear_alike (head.Int op.Add) _ _ (alike_2 a b c d e f) p q n' = λ i. Some (plus_val (e i) (f i))
    linear_alike (head.Int op.Add) _ _ (alike_3 a b e c d f us vs) p q n' = refl
    linear_alike (head.Int op.Sub) _ _ alike_0 p q n' = refl
    linear_alike (head.Int op.Sub) _ _ (alike_1 a c e) p q n' = refl
    linear_alike (head.Int op.Sub) _ _ (alike_2 a b c d e f) p q n' = λ i. Some (minus_val (e i) (f i))
    linear_alike (head.Int op.Sub) _ _ (alike_3 a b e c d f us vs) p q n' = refl
    linear_alike (head.Int op.Neg) _ _ alike_0 p q n' = refl
    linear_alike (head.Int op.Neg) _ _ (alike_1 a c e) p q n' = λ i. Some (scale_val (neg_ℚ one_ℚ) (e i))
    linear_alike (head.Int op.Neg) _ _ (alike_2 a b c d e f) p q n' = refl
    linear_alike (head.Int op.Neg) _ _ (alike_3 a b e c d f us vs) p q n' = refl
    linear_alike (head.Int op.Mul) _ _ alike_0 p q n' = refl
    linear_alike (head.Int op.Mul) _ _ (alike_1 a c e) p q n' = refl
    linear_alike (head.Int op.Mul) _ _ (alike_2 a b c d e f) p q n' = products a b c d e f p q n'
    linear_alike (head.Int op.Mul) _ _ (alike_3 a b e c d f us vs) p q n' = refl
    linear_alike (head.Int op.Div) _ _ alike_0 p q n' = refl
    linear_alike (head.Int op.Div) _ _ (alike_1 a c e) p q n' = refl
    linear_alike (head.Int op.Div) _ _ (alike_2 a b c d e f) p q n' = refl
    linear_alike (head.Int op.Div) _ _ (alike_3 a b e c d f us vs) p q n' = refl
    linear_alike (head.Int op.Mod) _ _ alike_0 p q n' = refl
    linear_alike (head.Int op.Mod) _ _ (alike_1 a c e) p q n' = refl
    linear_alike (head.Int op.Mod) _ _ (alike_2 a b c d e f) p q n' = refl
    linear_alike (head.Int op.Mod) _ _ (alike_3 a b e c d f us vs) p q n' = refl
    linear_alike (head.Real op.Add) _ _ alike_0 p q n' = refl
    linear_alike (head.Real op.Add) _ _ (alike_1 a c e) p q n' = refl
    linear_alike (head.Real op.Add) _ _ (alike_2 a b c d e f) p q n' = λ i. Some (plus_val (e i) (f i))
    linear_alike (head.Real op.Add) _ _ (alike_3 a b e c d f us vs) p q n' = refl
    linear_alike (head.Real op.Sub) _ _ alike_0 p q n' = refl
    linear_alike (head.Real op.Sub) _ _ (alike_1 a c e) p q n' = refl
    linear_alike (head.Real op.Sub) _ _ (alike_2 a b c d e f) p q n' = λ i. Some (minus_val (e i) (f i))
    linear_alike (head.Real op.Sub) _ _ (alike_3 a b e c d f us vs) p q n' = refl
    linear_alike (head.Real op.Neg) _ _ alike_0 p q n' = refl
    linear_alike (head.Real op.Neg) _ _ (alike_1 a c e) p q n' = λ i. Some (scale_val (neg_ℚ one_ℚ) (e i))
    linear_alike (head.Real op.Neg) _ _ (alike_2 a b c d e f) p q n' = refl
    linear_alike (head.Real op.Neg) _ _ (alike_3 a b e c d f us vs) p q n' = refl
    linear_alike (head.Real op.Mul) _ _ alike_0 p q n' = refl
    linear_alike (head.Real op.Mul) _ _ (alike_1 a c e) p q n' = refl
    linear_alike (head.Real op.Mul) _ _ (alike_2 a b c d e f) p q n' = products a b c d e f p q n'
    linear_alike (head.Real op.Mul) _ _ (alike_3 a b e c d f us vs) p q n' = refl
    linear_alike (head.Real op.Div) _ _ alike_0 p q n' = refl
    linear_alike (head.Real op.Div) _ _ (alike_1 a c e) p q n' = refl
    linear_alike (head.Real op.Div) _ _ (alike_2 a b c d e f) p q n' = quotients _ _ b d e f p q
    linear_alike (head.Real op.Div) _ _ (alike_3 a b e c d f us vs) p q n' = refl
    linear_alike (head.Real op.Mod) _ _ alike_0 p q n' = refl
    linear_alike (head.Real op.Mod) _ _ (alike_1 a c e) p q n' = refl
    linear_alike (head.Real op.Mod) _ _ (alike_2 a b c d e f) p q n' = refl
    linear_alike (head.Real op.Mod) _ _ (alike_3 a b e c d f us vs) p q n' = refl

    pub congruent_alike : (h : Head) (ss : List Sort) (us vs : List Term)
        → map (ev sig y num reduce choosing A) us ≡ map (ev sig y num reduce choosing B) vs
        → IsPlainNode h us → IsPlainNode h vs → AreNumbers A h us
        → ev sig y num reduce choosing A (Apply h ss us) ≡ ev sig y num reduce choosing B (Apply h ss vs)
    congruent_alike h ss us vs e p q n =
        ev-Apply sig y num reduce choosing A h ss us
        ∙
        (λ i. or_else (linear_alike h us vs (from_values us vs e) p q n i)
        (applied_value sig y num reduce choosing h ss (or_else (result_sort sig h ss) Int) (e i)))
        ∙ sym (ev-Apply sig y num reduce choosing B h ss vs)
