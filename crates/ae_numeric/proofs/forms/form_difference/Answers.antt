use Rattle.std.specs.Prelude.{◌≡◌, ◌++◌, pos, neg_ℤ, Some, None, OnOk, IfErr}
use Rattle.std.proofs.Common.{subst, sym, ap, ◌∙◌}
use native.Mathlib.Decide.{ℕ_discrete}
use Rattle.ae_math.specs.Fractions.{ratio}
use Rattle.ae_math.specs.Forms.{plus, minus, scale}
use Rattle.ae_math.proofs.FormLaws.{same_refl, same_trans, plus-same}
use Rattle.ae_num.specs.declared.forms.Lin.{Lin}
use Rattle.ae_num.specs.declared.numbers.Wide.{Wide}
use Rattle.ae_num.specs.Forms.{meaning, SameMeaning, first_wide, IfWide, plus_steps, scale_steps, multiple_of}
use Rattle.ae_num.proofs.StepLaws.{first_wide-some, first_wide-none, same_err}
use Rattle.std.proofs.lemmas.Result.{IfOk-weaker}
use Rattle.ae_numeric.proofs.NamedLaws.{minus_ratio}
use Rattle.ae_numeric.proofs.forms.form_difference.Goals as goal

pub returns-in_err-negated-clause-wide : goal.returns-in_err-negated-clause-wide
returns-in_err-negated-clause-wide c =
    let xs = scale_steps (neg_ℤ (pos 1)) (pos 1) c.args.right.now in
    let ys = plus_steps c.args.left.now (multiple_of (neg_ℤ (pos 1)) (pos 1) c.args.right.now) in
    same_err c.from_residual.result c.in_err-negated.field-0.0 (λ (w : Wide). first_wide xs ≡ Some w) (λ (w : Wide). first_wide (xs ++ ys) ≡ Some w) c.from_residual.ensures.1
    (λ (w : Wide) h. first_wide-some xs ys w h) c.in_err-negated.ensures.wide

pub returns-clause-exact : goal.returns-clause-exact
returns-clause-exact c =
    let x = c.args.left.now in
    let y = c.args.right.now in
    let z = c.in_ok-negated.negated in
    let turned : SameMeaning (meaning z) (scale (ratio (neg_ℤ (pos 1)) (pos 1)) (meaning y)) = c.in_ok-negated.ensures.exact in
    IfOk-weaker c.plus.result _ (λ f. SameMeaning (meaning f) (minus (meaning x) (meaning y)))
    (λ (f : Lin) s. subst (λ a. SameMeaning (meaning f) (plus (meaning x) (scale a (meaning y)))) minus_ratio
    (same_trans ℕ_discrete (meaning f) (plus (meaning x) (meaning z)) (plus (meaning x) (scale (ratio (neg_ℤ (pos 1)) (pos 1)) (meaning y))) s
    (plus-same ℕ_discrete (meaning x) (meaning x) (meaning z) (scale (ratio (neg_ℤ (pos 1)) (pos 1)) (meaning y)) (same_refl ℕ_discrete (meaning x)) turned))) c.plus.ensures.exact

pub returns-clause-fits : goal.returns-clause-fits
returns-clause-fits c =
    let x = c.args.left.now in
    let xs = scale_steps (neg_ℤ (pos 1)) (pos 1) c.args.right.now in
    let made : c.in_ok-negated.negated ≡ multiple_of (neg_ℤ (pos 1)) (pos 1) c.args.right.now = c.in_ok-negated.ensures.form in
    let ys = plus_steps x (multiple_of (neg_ℤ (pos 1)) (pos 1) c.args.right.now) in
    let same : first_wide (plus_steps x c.in_ok-negated.negated) ≡ first_wide (xs ++ ys) = ap (λ g. first_wide (plus_steps x g)) made ∙ sym (first_wide-none xs ys c.in_ok-negated.ensures.fits) in
    subst (λ o. OnOk c.plus.result (o ≡ None)) same c.plus.ensures.fits

pub returns-clause-wide : goal.returns-clause-wide
returns-clause-wide c =
    let x = c.args.left.now in
    let xs = scale_steps (neg_ℤ (pos 1)) (pos 1) c.args.right.now in
    let made : c.in_ok-negated.negated ≡ multiple_of (neg_ℤ (pos 1)) (pos 1) c.args.right.now = c.in_ok-negated.ensures.form in
    let ys = plus_steps x (multiple_of (neg_ℤ (pos 1)) (pos 1) c.args.right.now) in
    let same : first_wide (plus_steps x c.in_ok-negated.negated) ≡ first_wide (xs ++ ys) = ap (λ g. first_wide (plus_steps x g)) made ∙ sym (first_wide-none xs ys c.in_ok-negated.ensures.fits) in
    subst (λ o. IfErr c.plus.result (λ fail. IfWide fail (λ w. o ≡ Some w))) same c.plus.ensures.wide
