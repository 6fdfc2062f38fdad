-- Linear forms of terms: one equation for each kind of term, and combinations of equations that hold.
use Rattle.std.specs.Prelude.{ℕ, ℤ, pos, Bool, false, cond, List, [], ◌∷◌, ◌≡◌, ◌≢◌, map}
use mathlib.Core.Path.{refl, sym, ap, ◌∙◌}
use Rattle.ae_math.specs.Fractions.{ℚ, zero_ℚ, one_ℚ, neg_ℚ, inverse_ℚ, ◌+ℚ◌, ◌*ℚ◌, ratio, whole}
use Rattle.ae_math.proofs.Wholes.{whole_same, zero_whole}
use Rattle.ae_math.specs.Forms.{Form, number, single, plus, scale, minus, is_zero, value}
use Rattle.ae_math.proofs.FractionLaws.{add_neg_q, zero_add_q, mul_zero_q, same_from_zero_q, cancel_q}
use Rattle.ae_math.proofs.FormLaws.{minus_one, value-same, value-plus, value-scale}
use Rattle.ae_core.specs.Decided.{Term_discrete}
use Rattle.ae_rules.specs.Lines.{Fact, equal, gap, total}
use Rattle.ae_rules.specs.Linear.{times, applied, form_step, form}
use Rattle.ae_rules.specs.Combinations.{IsLinear, AllHold, Combines}
use Rattle.ae_core.specs.declared.terms.Sort.{Sort}
use Rattle.ae_core.specs.declared.terms.Head.{Head}
use Rattle.ae_core.specs.declared.terms.Head.TheVariants as head
use Rattle.ae_core.specs.declared.terms.Op.TheVariants as op
use Rattle.ae_core.specs.declared.terms.Term.{Term, Bound, Num, Fresh, Apply, para-roll-Term}
use Rattle.ae_core.specs.declared.terms.Term.TheOpen as layer
use Rattle.ae_core.specs.declared.terms.Term.TheVariants.{rolls-Apply, rolls-Bound, rolls-Num, rolls-Fresh}

firsts : (f : Term → Form Term) (ts : List Term) → map {A = Term × Form Term} (λ a. a.0) (map (λ t. (t, f t)) ts) ≡ ts
firsts f [] = refl
firsts f (t ∷ ts) = ap (λ us. t ∷ us) (firsts f ts)

pub form-Apply : (h : Head) (ss : List Sort) (ts : List Term) → form (Apply h ss ts) ≡ applied (Apply h ss ts) h (map (λ t. (t, form t)) ts)
unfolding form
form-Apply h ss ts =
    ap form (sym (rolls-Apply h ss ts)) ∙ para-roll-Term (Form Term) form_step (layer.Apply h ss ts)
    ∙ ap (λ us. applied (Apply h ss us) h (map (λ t. (t, form t)) ts)) (firsts form ts)

pub form-Bound : (n : ℕ) → form (Bound n) ≡ single (Bound n)
unfolding form
form-Bound n = ap form (sym (rolls-Bound n)) ∙ para-roll-Term (Form Term) form_step (layer.Bound n)

pub form-Num : (top bottom : ℤ) (real : Bool) → form (Num top bottom real) ≡ number (ratio top bottom)
unfolding form
form-Num a b r = ap form (sym (rolls-Num a b r)) ∙ para-roll-Term (Form Term) form_step (layer.Num a b r)

pub form-Fresh : (n : ℕ) (s : Sort) → form (Fresh n s) ≡ single (Fresh n s)
unfolding form
form-Fresh n s = ap form (sym (rolls-Fresh n s)) ∙ para-roll-Term (Form Term) form_step (layer.Fresh n s)

pub opaque_symbol : (f : ℕ) (ss : List Sort) (ts : List Term) → form (Apply (head.Symbol f) ss ts) ≡ single (Apply (head.Symbol f) ss ts)
opaque_symbol f ss ts = form-Apply (head.Symbol f) ss ts

pub int_sum : (ss : List Sort) (a b : Term) → form (Apply (head.Int op.Add) ss (a ∷ b ∷ [])) ≡ plus (form a) (form b)
int_sum ss a b = form-Apply (head.Int op.Add) ss (a ∷ b ∷ [])

pub real_sum : (ss : List Sort) (a b : Term) → form (Apply (head.Real op.Add) ss (a ∷ b ∷ [])) ≡ plus (form a) (form b)
real_sum ss a b = form-Apply (head.Real op.Add) ss (a ∷ b ∷ [])

pub int_difference : (ss : List Sort) (a b : Term) → form (Apply (head.Int op.Sub) ss (a ∷ b ∷ [])) ≡ minus (form a) (form b)
int_difference ss a b = form-Apply (head.Int op.Sub) ss (a ∷ b ∷ [])

pub real_difference : (ss : List Sort) (a b : Term) → form (Apply (head.Real op.Sub) ss (a ∷ b ∷ [])) ≡ minus (form a) (form b)
real_difference ss a b = form-Apply (head.Real op.Sub) ss (a ∷ b ∷ [])

pub int_negation : (ss : List Sort) (a : Term) → form (Apply (head.Int op.Neg) ss (a ∷ [])) ≡ scale (neg_ℚ one_ℚ) (form a)
int_negation ss a = form-Apply (head.Int op.Neg) ss (a ∷ [])

pub real_negation : (ss : List Sort) (a : Term) → form (Apply (head.Real op.Neg) ss (a ∷ [])) ≡ scale (neg_ℚ one_ℚ) (form a)
real_negation ss a = form-Apply (head.Real op.Neg) ss (a ∷ [])

pub int_product : (ss : List Sort) (a b : Term) → form (Apply (head.Int op.Mul) ss (a ∷ b ∷ [])) ≡ times (Apply (head.Int op.Mul) ss (a ∷ b ∷ [])) (form a) (form b)
int_product ss a b = form-Apply (head.Int op.Mul) ss (a ∷ b ∷ [])

pub real_product : (ss : List Sort) (a b : Term) → form (Apply (head.Real op.Mul) ss (a ∷ b ∷ [])) ≡ times (Apply (head.Real op.Mul) ss (a ∷ b ∷ [])) (form a) (form b)
real_product ss a b = form-Apply (head.Real op.Mul) ss (a ∷ b ∷ [])

pub real_quotient : (ss : List Sort) (a : Term) (top bottom : ℤ) (real : Bool) → is_zero (ratio top bottom) ≡ false
    → form (Apply (head.Real op.Div) ss (a ∷ Num top bottom real ∷ [])) ≡ scale (inverse_ℚ (ratio top bottom)) (form a)
real_quotient ss a top bottom real n =
    form-Apply (head.Real op.Div) ss (a ∷ Num top bottom real ∷ [])
    ∙ ap (λ z. cond z (single (Apply (head.Real op.Div) ss (a ∷ Num top bottom real ∷ []))) (scale (inverse_ℚ (ratio top bottom)) (form a))) n

-- ---- a combination of equations that hold is an equation that holds
module _ (L : Term → ℚ) (u : ℚ) (linear : IsLinear L u) where
  gap_value : (f : Fact) → value L u (gap f) ≡ L f.right +ℚ neg_ℚ (L f.left)
  gap_value f =
      value-plus L u (form f.right) (scale (neg_ℚ one_ℚ) (form f.left))
      ∙ (λ i. sym (linear f.right) i +ℚ (value-scale L u (neg_ℚ one_ℚ) (form f.left) ∙ minus_one (value L u (form f.left)) ∙ ap neg_ℚ (sym (linear f.left))) i)

  gap_zero : (f : Fact) → L f.left ≡ L f.right → value L u (gap f) ≡ zero_ℚ
  gap_zero f h = gap_value f ∙ ap (λ x. L f.right +ℚ neg_ℚ x) h ∙ add_neg_q (L f.right)

  total_zero : (fs : List (ℤ × Fact)) → AllHold L fs → value L u (total fs) ≡ zero_ℚ
  total_zero [] h = zero_add_q _ ∙ mul_zero_q u
  total_zero (f ∷ fs) h =
      value-plus L u (scale (whole f.0) (gap f.1)) (total fs)
      ∙ (λ i. (value-scale L u (whole f.0) (gap f.1) ∙ ap (λ x. whole f.0 *ℚ x) (gap_zero f.1 h.0) ∙ mul_zero_q (whole f.0)) i +ℚ total_zero fs h.1 i) ∙ zero_add_q zero_ℚ

  pub lin_respects : (s t : Term) (d : ℤ) (fs : List (ℤ × Fact)) → d ≢ pos 0 → Combines d s t fs → AllHold L fs → L s ≡ L t
  lin_respects s t d fs n same h =
      let zero' : whole d *ℚ value L u (gap (equal s t)) ≡ whole d *ℚ zero_ℚ =
      sym (value-scale L u (whole d) (gap (equal s t))) ∙ value-same Term_discrete L u (scale (whole d) (gap (equal s t))) (total fs) same ∙ total_zero fs h ∙ sym (mul_zero_q (whole d)) in
      let none : value L u (gap (equal s t)) ≡ zero_ℚ = cancel_q (whole d) _ _ (λ e. n (whole_same d (pos 0) (e ∙ zero_whole))) zero' in
      sym (same_from_zero_q (L t) (L s) (sym (gap_value (equal s t)) ∙ none))
