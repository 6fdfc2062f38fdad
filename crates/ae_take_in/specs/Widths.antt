-- Steps on the numbers of a name's operands, of which a product or a sum leaves the limits.
use Rattle.std.specs.Prelude.{ℕ, ℤ, pos, negsuc, Bool, true, false, List, [], ◌≡◌, Some, None}
use Rattle.ae_math.specs.Fractions.{ratio, inverse_ℚ}
use Rattle.ae_math.specs.Forms.{number as number_form, is_zero}
use Rattle.ae_core.specs.declared.terms.Op.TheVariants as op
use Rattle.ae_core.specs.declared.terms.Head.TheVariants as head
use Rattle.ae_core.specs.declared.terms.Term.{Term, Num}
use Rattle.ae_num.specs.Forms.{meaning, SameMeaning, IsNormal, first_wide, multiple_of}
use Rattle.ae_num.specs.declared.forms.Lin.{Lin}
use Rattle.ae_rules.specs.Linear.{form, is_number}
use Rattle.ae_journal.specs.Licences.{stated_steps}
use Rattle.ae_journal.specs.declared.answers.NumStep.{NumStep}
use Rattle.ae_journal.specs.declared.answers.NumStep.TheVariants as num
use Rattle.ae_journal.specs.declared.answers.WideAt.{WideAt}
use Rattle.ae_store.specs.Terms.{named}
use Rattle.ae_just.specs.Sides.{joined, numeric}

-- the width names the step, the two forms, which are in the normal form, and the step's first product or sum that leaves the limits
pub record IsStepWide (s : NumStep) (f h : Lin) (w : WideAt) : Type 0 where
  pub step : w.step ≡ s
  pub left : w.left ≡ f
  pub key : w.key ≡ None
  pub right : w.right ≡ h
  pub normal : IsNormal f × IsNormal h
  pub wide : first_wide (stated_steps s f None h) ≡ Some w.wide

-- the step on the numbers of the name's operands, where these are `number`: of a sum, a difference, a product with a constant, a quotient by a numeral
pub data IsOperandWidth (ts : List Term) (number : ℕ → Lin) (n : ℕ) (w : WideAt) : Type 0 where
  of_sum : (a b : ℕ) (real : Bool) → named ts n ≡ joined (numeric real op.Add) [] (named ts a) (named ts b) → IsStepWide num.Plus (number a) (number b) w → IsOperandWidth ts number n w
  of_difference : (a b : ℕ) (real : Bool) → named ts n ≡ joined (numeric real op.Sub) [] (named ts a) (named ts b)
      → IsStepWide num.Plus (number a) (multiple_of (negsuc 0) (pos 1) (number b)) w → IsOperandWidth ts number n w
  of_left_factor : (a b : ℕ) (real : Bool) → named ts n ≡ joined (numeric real op.Mul) [] (named ts a) (named ts b) → is_number (form (named ts b)) ≡ true
      → SameMeaning (meaning w.right) (number_form (form (named ts b)).constant) → IsStepWide num.Scale (number a) w.right w → IsOperandWidth ts number n w
  of_right_factor : (a b : ℕ) (real : Bool) → named ts n ≡ joined (numeric real op.Mul) [] (named ts a) (named ts b) → is_number (form (named ts a)) ≡ true
      → SameMeaning (meaning w.right) (number_form (form (named ts a)).constant) → IsStepWide num.Scale (number b) w.right w → IsOperandWidth ts number n w
  of_quotient : (a b : ℕ) (top bottom : ℤ) (r : Bool) → named ts n ≡ joined (head.Real op.Div) [] (named ts a) (named ts b) → named ts b ≡ Num top bottom r → is_zero (ratio top bottom) ≡ false
      → SameMeaning (meaning w.right) (number_form (inverse_ℚ (ratio top bottom))) → IsStepWide num.Scale (number a) w.right w → IsOperandWidth ts number n w
