-- Widths of the sum of one form and another times -1.
use Rattle.std.specs.Prelude.{pos, negsuc, ◌≡◌, Result, Ok, Err, IsErrAnd, IfErr}
use Rattle.std.proofs.Common.{sym, ap, ◌∙◌, subst}
use Rattle.ae_math.specs.Fractions.{ratio}
use Rattle.ae_math.specs.Forms.{scale}
use Rattle.ae_num.specs.Forms.{meaning, SameMeaning, IsNormal, first_wide, plus_steps, scale_steps, multiple_of}
use Rattle.ae_num.specs.declared.forms.Lin.{Lin}
use Rattle.ae_num.proofs.StepLaws.{first_wide-none}
use Rattle.ae_first_values.proofs.Limits.{opposite_fits}
use Rattle.ae_journal.specs.declared.answers.WideAt.{WideAt}
use Rattle.ae_value_fitting.specs.declared.refusals.Refused.{Refused}
use Rattle.ae_value_fitting.specs.declared.refusals.Refused.TheVariants.{Number, Memory}
use Rattle.ae_value_fitting.specs.Refusals.{IfNumber}
use Rattle.ae_number_solving.specs.Inner.Widths.{IsSumWide, IsDifferenceWide}

-- ---- refusals that are passed on
pub if_number : {P Q : WideAt → Type 0} (r : Refused) → ((w : WideAt) → P w → Q w) → IfNumber r P → IfNumber r Q
if_number (Number w) f h = f w h
if_number (Memory m) f h = tt

pub number_passed : {T : Type 0} {P Q : WideAt → Type 0} (r : Result T Refused) (e : Refused) → IsErrAnd r (λ x. x ≡ e) → ((w : WideAt) → P w → Q w) → IfNumber e P → IfErr r (λ x. IfNumber x Q)
number_passed (Ok x) e h f p = tt
number_passed {T} {P} {Q} (Err x) e h f p = subst (λ z. IfNumber z Q) (sym h) (if_number e f p)

-- the width of a refusal that has one
pub number_is : (P : WideAt → Type 0) (r : Refused) (w : WideAt) → IfNumber r P → r ≡ Number w → P w
number_is P r w h e = subst (λ z. IfNumber z P) e h

-- ---- differences
pub difference_wide : (f g h : Lin) (w : WideAt) → IsNormal g → IsNormal h → h ≡ multiple_of (negsuc 0) (pos 1) g → SameMeaning (meaning h) (scale (ratio (negsuc 0) (pos 1)) (meaning g)) → IsSumWide f h w
    → IsDifferenceWide f g w
difference_wide f g h w ng nh form means s = record {
  step_is = s.step_is;
  key_is = s.key_is;
  left_is = s.left_is;
  right_is = record {
    normal = subst IsNormal (sym s.right_is) nh;
    form = s.right_is ∙ form;
    means = subst (λ (x : Lin). SameMeaning (meaning x) (scale (ratio (negsuc 0) (pos 1)) (meaning g))) (sym s.right_is) means;
  };
  wide_is = first_wide-none (scale_steps (negsuc 0) (pos 1) g) (plus_steps f (multiple_of (negsuc 0) (pos 1) g)) (opposite_fits g ng) ∙ ap (λ (x : Lin). first_wide (plus_steps f x)) (sym form) ∙ s.wide_is;
}

pub same_difference_wide : (f g a b : Lin) (w : WideAt) → f ≡ a → g ≡ b → IsDifferenceWide f g w → IsDifferenceWide a b w
same_difference_wide f g a b w e d h = subst (λ (x : Lin × Lin). IsDifferenceWide x.0 x.1 w) (λ i. (e i, d i)) h
