-- The width of the difference of an inequality's sides is licensed.
use Rattle.std.specs.Prelude.{ℕ, pos, negsuc, ◌≡◌, Option, Some, None, Result, Err}
use Rattle.std.proofs.Common.{sym, ap, ◌∙◌, subst, inl}
use native.Mathlib.Decide.{ℕ_discrete}
use Rattle.ae_math.specs.Fractions.{ℚ, one_ℚ, neg_ℚ, ◌*ℚ◌}
use Rattle.ae_math.specs.Forms.{scale}
use Rattle.ae_math.proofs.FormLaws.{same_sym}
use Rattle.ae_num.specs.declared.forms.Lin.{Lin}
use Rattle.ae_num.specs.declared.numbers.Wide.{Wide}
use Rattle.ae_num.specs.Forms.{meaning as form_of, SameMeaning, IsNormal, first_wide, plus_steps, scale_steps, difference_steps, multiple_of}
use Rattle.ae_num.proofs.Rests.{after_none}
use Rattle.ae_num.proofs.StepLaws.{first_wide-none}
use Rattle.ae_first_values.proofs.Limits.{opposite_fits, opposite_is}
use Rattle.ae_journal.specs.Values.{Val, Sum, sum_in, sum_of_lin, scale_val, scaled, settled}
use Rattle.ae_journal.specs.Licences.{stated_steps, IsLicensedStep, sum_now, opposite_now}
use Rattle.ae_journal.specs.Licences.IsLicensedPlus.{of_inequality}
use Rattle.ae_journal.specs.Licences.IsLicensedStep.{a_plus}
use Rattle.ae_journal.specs.Standing.{value_now}
use Rattle.ae_journal.specs.declared.answers.NumStep.{NumStep}
use Rattle.ae_journal.specs.declared.answers.NumStep.TheVariants as plus
use Rattle.ae_journal.specs.declared.answers.WideAt.{WideAt}
use Rattle.ae_theory.specs.declared.theory.Fail.{Fail}
use Rattle.ae_theory.specs.declared.theory.Fail.TheVariants.{Number}
use Rattle.ae_name_lines.proofs.Spelled.{multiple_val, same_val}
use Rattle.ae_name_licences.specs.Joining.{IsNegation}
use Rattle.ae_row_differences.specs.Widths.{IsDifferenceWide}
use Rattle.ae_row_differences.specs.Inner.Sums.{IsSumWide}
use Rattle.ae_row_differences.specs.Laws.{InequalityWidthsAreLicensed}

-- what is refused with one refusal is that
pub this_refusal : (a b : Fail) → ◌≡◌ {A = Result Lin Fail} (Err a) (Err b) → a ≡ b
this_refusal a b e = let d : a ≡ b = cc e in d

pub this_number : (a b : WideAt) → Number a ≡ Number b → a ≡ b
this_number a b e = let d : a ≡ b = cc e in d

-- the value times -1, of which the form is a value
negated_now : (v : Val) (g h : Lin) → sum_in v ≡ sum_of_lin g → IsNegation g h → sum_in (scale_val (neg_ℚ one_ℚ) v) ≡ sum_of_lin h
negated_now v g h e n =
    let same : SameMeaning (scale (neg_ℚ one_ℚ) (form_of g)) (form_of h) =
    same_sym ℕ_discrete (form_of h) (scale (neg_ℚ one_ℚ) (form_of g)) (subst (λ (z : ℚ). SameMeaning (form_of h) (scale z (form_of g))) opposite_is n.means) in
    (λ i. record { parts = settled (scaled (neg_ℚ one_ℚ) (e i).parts); constant = neg_ℚ one_ℚ *ℚ (e i).constant })
    ∙ ap sum_in (multiple_val (neg_ℚ one_ℚ) (form_of g) ∙ same_val (scale (neg_ℚ one_ℚ) (form_of g)) (form_of h) same)

-- the sum is what is wide
sum_wide : (f g h : Lin) (wide : Wide) → IsNormal g → IsNegation g h → first_wide (difference_steps f g) ≡ Some wide → first_wide (plus_steps f h) ≡ Some wide
sum_wide f g h wide n i e =
    sym (after_none (scale_steps (negsuc 0) (pos 1) g) (plus_steps f h) (plus_steps f (multiple_of (negsuc 0) (pos 1) g)) (opposite_fits g n) (ap (plus_steps f) i.form)) ∙ e

pub difference_wide : (f g h : Lin) (w : WideAt) → IsNormal g → IsNegation g h → IsSumWide f h w → IsDifferenceWide f g w
difference_wide f g h w n i s = record {
  step_is = s.step_is;
  key_is = s.key_is;
  left_is = s.left_is;
  right_is = subst (IsNegation g) (sym s.right_is) i;
  wide_is = first_wide-none (scale_steps (negsuc 0) (pos 1) g) (plus_steps f (multiple_of (negsuc 0) (pos 1) g)) (opposite_fits g n) ∙ ap (λ (x : Lin). first_wide (plus_steps f x)) (sym i.form) ∙ s.wide_is;
}

pub licensed : InequalityWidthsAreLicensed
licensed x js l s t strict f g w may is p q n m d =
    let left : sum_now x js s ≡ sum_of_lin w.left = p ∙ ap sum_of_lin (sym d.left_is) in
    let right : opposite_now x js t ≡ sum_of_lin w.right = negated_now (value_now x js t) g w.right q d.right_is in
    let step : IsLicensedStep x js plus.Plus (sum_now x js s) None (opposite_now x js t) = a_plus (sum_now x js s) (opposite_now x js t) (of_inequality l s t strict may is) in
    record {
      normal = (subst IsNormal (sym d.left_is) n, (d.right_is).normal);
      wide = (λ i. first_wide (stated_steps (d.step_is i) (d.left_is i) (d.key_is i) w.right)) ∙ sum_wide f g w.right w.wide m d.right_is d.wide_is;
      forms = inl (subst (λ (z : NumStep × Sum × Option ℕ × Sum). IsLicensedStep x js z.0 z.1 z.2 z.3) (λ i. (sym d.step_is i, left i, sym d.key_is i, right i)) step);
    }
