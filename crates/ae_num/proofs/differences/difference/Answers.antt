use Rattle.std.specs.Prelude.{◌≡◌, pos, negsuc, Some, None, IfErr, OnOk}
use Rattle.std.proofs.Common.{subst, sym, ap, ◌∙◌}
use native.Mathlib.Decide.{ℕ_discrete}
use Rattle.ae_math.specs.Fractions.{ℚ, neg_ℚ, one_ℚ, ratio}
use Rattle.ae_math.specs.Forms.{minus, plus, scale}
use Rattle.ae_math.proofs.FormLaws.{same_trans, same_refl, plus-same}
use Rattle.ae_num.specs.declared.forms.Lin.{Lin}
use Rattle.ae_num.specs.declared.numbers.Wide.{Wide}
use Rattle.ae_num.specs.Forms.{meaning, SameMeaning, first_wide, IfWide, multiple_of, plus_steps, scale_steps, difference_steps}
use Rattle.std.proofs.lemmas.Result.{IfOk-weaker}
use Rattle.ae_num.proofs.StepLaws.{same_err, first_wide-some, first_wide-none}
use Rattle.ae_num.proofs.Rests.{minus_one_ratio}
use Rattle.ae_num.proofs.differences.difference.Goals as goal

pub returns-in_err-negated-clause-wide : goal.returns-in_err-negated-clause-wide
returns-in_err-negated-clause-wide c =
    let p = c.args.left.now in
    let q = c.args.right.now in
    same_err c.from_residual.result c.in_err-negated.field-0.0 (λ (w : Wide). first_wide (scale_steps (negsuc 0) (pos 1) q) ≡ Some w) (λ (w : Wide). first_wide (difference_steps p q) ≡ Some w)
    c.from_residual.ensures.1
    (λ (w : Wide) h. first_wide-some (scale_steps (negsuc 0) (pos 1) q) (plus_steps p (multiple_of (negsuc 0) (pos 1) q)) w h) c.in_err-negated.ensures.wide

negated_means : (p q n d : Lin) → SameMeaning (meaning n) (scale (ratio (negsuc 0) (pos 1)) (meaning q)) → SameMeaning (meaning d) (plus (meaning p) (meaning n)) → SameMeaning (meaning d) (minus (meaning p) (meaning q))
negated_means p q n d s t =
    same_trans ℕ_discrete (meaning d) (plus (meaning p) (meaning n)) (minus (meaning p) (meaning q)) t
    (plus-same ℕ_discrete (meaning p) (meaning p) (meaning n) (scale (neg_ℚ one_ℚ) (meaning q)) (same_refl ℕ_discrete (meaning p))
    (subst (λ (y : ℚ). SameMeaning (meaning n) (scale y (meaning q))) minus_one_ratio s))

pub returns-clause-exact : goal.returns-clause-exact
returns-clause-exact c =
    let p = c.args.left.now in
    let q = c.args.right.now in
    let n = c.in_ok-negated.negated in
    IfOk-weaker c.plus.result (λ d. SameMeaning (meaning d) (plus (meaning p) (meaning n))) (λ d. SameMeaning (meaning d) (minus (meaning p) (meaning q)))
    (λ (d : Lin) t. negated_means p q n d c.in_ok-negated.ensures.exact t) c.plus.ensures.exact

pub returns-clause-fits : goal.returns-clause-fits
returns-clause-fits c =
    let p = c.args.left.now in
    let q = c.args.right.now in
    let m = multiple_of (negsuc 0) (pos 1) q in
    subst (λ t. OnOk c.plus.result (t ≡ None))
    (ap (λ (n : Lin). first_wide (plus_steps p n)) c.in_ok-negated.ensures.form ∙ sym (first_wide-none (scale_steps (negsuc 0) (pos 1) q) (plus_steps p m) c.in_ok-negated.ensures.fits)) c.plus.ensures.fits

pub returns-clause-wide : goal.returns-clause-wide
returns-clause-wide c =
    let p = c.args.left.now in
    let q = c.args.right.now in
    let m = multiple_of (negsuc 0) (pos 1) q in
    subst (λ t. IfErr c.plus.result (λ fail. IfWide fail (λ w. t ≡ Some w)))
    (ap (λ (n : Lin). first_wide (plus_steps p n)) c.in_ok-negated.ensures.form ∙ sym (first_wide-none (scale_steps (negsuc 0) (pos 1) q) (plus_steps p m) c.in_ok-negated.ensures.fits)) c.plus.ensures.wide
