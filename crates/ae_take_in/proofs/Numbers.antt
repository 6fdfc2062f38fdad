-- Factors of names: -1, constants, and inverses of numerals.
use Rattle.std.specs.Prelude.{ℕ, ℤ, pos, negsuc, ◌<ℤ◌, ◌^◌, int_lt, Bool, true, false, ◌||◌, not, cond, List, [], ◌∷◌, ◌≡◌, ◌≢◌, Option, Some, None, unsigned_abs}
use Rattle.std.proofs.Common.{refl, sym, ap, ◌∙◌, subst}
use Rattle.std.proofs.lemmas.Bool.{ltb-true}
use Rattle.std.proofs.lemmas.Option.{none-some}
use Rattle.ae_base.proofs.Integers.{positive_is}
use Rattle.ae_base.proofs.Tests.{four_parts}
use Rattle.ae_math.specs.Fractions.{ℚ, ratio, neg_ℚ, one_ℚ, inverse_ℚ}
use Rattle.ae_math.specs.Forms.{Form, single, scale, is_zero}
use Rattle.ae_math.proofs.FormLaws.{is_zero_yes, is_zero_no, same_refl}
use Rattle.ae_math.proofs.Wholes.{ratio_of_zero}
use Rattle.ae_core.specs.Decided.{Term_discrete}
use Rattle.ae_core.specs.Sorts.{numeral_ok, within}
use Rattle.ae_core.specs.declared.terms.Term.{Term, Bound, Num, Fresh, Apply, Apply'}
use Rattle.ae_core.specs.declared.terms.Head.TheVariants as head
use Rattle.ae_core.specs.declared.terms.Op.TheVariants as op
use Rattle.ae_num.specs.Forms.{meaning, IsNormal, first_wide, scale_steps}
use Rattle.ae_num.specs.Limits.{FitsLimits}
use Rattle.ae_num.specs.declared.forms.Lin.{Lin}
use Rattle.ae_num.specs.declared.numbers.Wide.{Wide}
use Rattle.ae_num.proofs.NormalLaws.{one_normal}
use Rattle.ae_linear.proofs.Solutions.{ratio_nonzero}
use Rattle.ae_rules.specs.Linear.{Linear, form, is_number, times, IsSame}
use Rattle.ae_rules.proofs.LinearLaws.{int_negation, real_negation, int_product, real_product, real_quotient}
use Rattle.ae_just.specs.Sides.{joined, numeric}
use Rattle.ae_store.specs.Terms.{named}
use Rattle.ae_settled.specs.Valued.{quotient}
use Rattle.ae_constants.specs.declared.rules.Computed.TheVariants as computed
use Rattle.ae_first_values.proofs.Limits.{opposite_is, opposite_fits}
use Rattle.ae_take_in.specs.Inner.Operations.{form_by}

-- the same form, by another name
pub same_by : (f g : Linear) → f ≡ g → IsSame f g
same_by f g e = subst (IsSame f) e (same_refl Term_discrete f)

-- ---- negations
abbrev pub minus_form : Lin
minus_form = record { den = pos 1; parts = []; constant = negsuc 0 }

pub minus_normal : (l : Lin) → l ≡ minus_form → IsNormal l
minus_normal l e =
    let n : IsNormal (record { den = pos 1; parts = []; constant = pos 1 }) = one_normal (record { den = pos 1; parts = []; constant = pos 1 }) refl in
    subst IsNormal (sym e) (record { positive = n.positive; rising = tt; nonzero = tt; lowest = n.lowest; within = n.within })

pub minus_ratio : (l : Lin) → l ≡ minus_form → ratio l.constant l.den ≡ neg_ℚ one_ℚ
minus_ratio l e = ap (λ (f : Lin). ratio f.constant f.den) e ∙ opposite_is

pub minus_fits : (l v : Lin) (w : Wide) → l ≡ minus_form → IsNormal v → first_wide (scale_steps l.constant l.den v) ≡ Some w → ⊥
minus_fits l v w e n h = none-some w (sym (opposite_fits v n) ∙ ap (λ (f : Lin). first_wide (scale_steps f.constant f.den v)) (sym e) ∙ h)

negation_form : (real : Bool) (u : Term) → form (Apply (numeric real op.Neg) [] (u ∷ [])) ≡ scale (neg_ℚ one_ℚ) (form u)
negation_form true u = real_negation [] u
negation_form false u = int_negation [] u

pub negation_is : (t u : Term) (real : Bool) (q : ℚ) → t ≡ Apply (numeric real op.Neg) [] (u ∷ []) → q ≡ neg_ℚ one_ℚ → IsSame (form t) (scale q (form u))
negation_is t u real q is e = same_by (form t) (scale q (form u)) (ap form is ∙ negation_form real u ∙ ap (λ (x : ℚ). scale x (form u)) (sym e))

-- ---- products
product_form : (real : Bool) (a b : Term) → form (joined (numeric real op.Mul) [] a b) ≡ times (joined (numeric real op.Mul) [] a b) (form a) (form b)
product_form true a b = real_product [] a b
product_form false a b = int_product [] a b

pub left_is : (t a b : Term) (real : Bool) → t ≡ joined (numeric real op.Mul) [] a b → is_number (form a) ≡ true → IsSame (form t) (scale (form a).constant (form b))
left_is t a b real is h =
    let whole = joined (numeric real op.Mul) [] a b in
    same_by (form t) (scale (form a).constant (form b))
    (ap form is ∙ product_form real a b ∙ ap (λ (z : Bool). cond z (scale (form a).constant (form b)) (cond (is_number (form b)) (scale (form b).constant (form a)) (single whole))) h)

times_right : (w : Term) (f g : Linear) → is_number f ≡ false → is_number g ≡ true → times w f g ≡ scale g.constant f
times_right w f g n h = λ i. cond (n i) (scale f.constant g) (cond (h i) (scale g.constant f) (single w))

pub right_is : (t a b : Term) (real : Bool) → t ≡ joined (numeric real op.Mul) [] a b → is_number (form a) ≡ false → is_number (form b) ≡ true → IsSame (form t) (scale (form b).constant (form a))
right_is t a b real is n h =
    same_by (form t) (scale (form b).constant (form a)) (ap form is ∙ product_form real a b ∙ times_right (joined (numeric real op.Mul) [] a b) (form a) (form b) n h)

module _ (ts : List Term) (number : ℕ → Lin) (l r : ℕ) where
  abbrev by_left : Option (Form ℕ)
  by_left = Some (scale (form (named ts l)).constant (meaning (number r)))

  abbrev by_right : Option (Form ℕ)
  by_right = Some (scale (form (named ts r)).constant (meaning (number l)))

  pub made_by_left : is_number (form (named ts l)) ≡ true → form_by ts number (computed.Product l r) ≡ by_left
  made_by_left h = ap (λ (z : Bool). cond z by_left (cond (is_number (form (named ts r))) by_right None)) h

  pub made_by_right : is_number (form (named ts l)) ≡ false → is_number (form (named ts r)) ≡ true → form_by ts number (computed.Product l r) ≡ by_right
  made_by_right n h = λ i. cond (n i) by_left (cond (h i) by_right None)

  pub made_by_none : is_number (form (named ts l)) ≡ false → is_number (form (named ts r)) ≡ false → form_by ts number (computed.Product l r) ≡ None
  made_by_none n h = λ i. cond (n i) by_left (cond (h i) by_right None)

-- ---- quotients
pub nonzero : (top bottom : ℤ) → top ≢ pos 0 → pos 0 <ℤ bottom → is_zero (ratio top bottom) ≡ false
nonzero top bottom n p = is_zero_no (ratio top bottom) (ratio_nonzero top bottom p n)

pub quotient_is : (t a b : Term) (top bottom : ℤ) (r : Bool) → t ≡ joined (head.Real op.Div) [] a b → b ≡ Num top bottom r → is_zero (ratio top bottom) ≡ false → IsSame (form t) (scale (inverse_ℚ (ratio top bottom)) (form a))
quotient_is t a b top bottom r is e z =
    same_by (form t) (scale (inverse_ℚ (ratio top bottom)) (form a)) (ap form is ∙ ap (λ (u : Term). form (joined (head.Real op.Div) [] a u)) e ∙ real_quotient [] a top bottom r z)

pub by_numeral : (f : Form ℕ) (b : Term) (top bottom : ℤ) (r : Bool) → b ≡ Num top bottom r → is_zero (ratio top bottom) ≡ false → quotient f b ≡ Some (scale (inverse_ℚ (ratio top bottom)) f)
by_numeral f b top bottom r e z = ap (quotient f) e ∙ ap (λ (y : Bool). cond y None (Some (scale (inverse_ℚ (ratio top bottom)) f))) z

pub by_zero : (f : Form ℕ) (b : Term) (top bottom : ℤ) (r : Bool) → b ≡ Num top bottom r → top ≡ pos 0 → quotient f b ≡ None
by_zero f b top bottom r e z =
    ap (quotient f) e ∙ ap (λ (y : Bool). cond y None (Some (scale (inverse_ℚ (ratio top bottom)) f))) (is_zero_yes (ratio top bottom) (ap (λ (x : ℤ). ratio x bottom) z ∙ ratio_of_zero bottom))

pub by_other : (f : Form ℕ) (b : Term) → ((top bottom : ℤ) (r : Bool) → b ≡ Num top bottom r → ⊥) → quotient f b ≡ None
by_other f (Num a c r) h = absurd (h a c r refl)
by_other f (Bound j) h = refl
by_other f (Fresh j s) h = refl
by_other f (Apply' j ss shape row) h = refl

-- ---- the numbers of a numeral
pub record IsRightNumeral (top bottom : ℤ) : Type 0 where
  pub positive : pos 0 <ℤ bottom
  pub top_within : FitsLimits top
  pub bottom_within : FitsLimits bottom

pub right_numeral : (top bottom : ℤ) (r : Bool) → numeral_ok top bottom r ≡ true → IsRightNumeral top bottom
right_numeral top bottom r e =
    let p = four_parts (within top) (within bottom) (int_lt (pos 0) bottom) (r || not (int_lt (pos 1) bottom)) e in
    record { positive = positive_is bottom p.2; top_within = ltb-true (unsigned_abs top) (2 ^ 127) p.0; bottom_within = ltb-true (unsigned_abs bottom) (2 ^ 127) p.1 }
