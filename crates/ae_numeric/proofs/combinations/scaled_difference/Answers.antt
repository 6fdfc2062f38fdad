use Rattle.std.specs.Prelude.{◌≡◌, pos, Some, None, IfOk, IfErr}
use Rattle.std.proofs.Common.{subst, to_z, of_z}
use Rattle.std.proofs.lemmas.Int.{to_z-of_z}
use mir.Syntax.{w128}
use Rattle.ae_math.specs.Fractions.{ratio, whole}
use Rattle.ae_math.specs.Forms.{scale}
use Rattle.ae_num.specs.declared.forms.Lin.{Lin}
use Rattle.ae_num.specs.declared.numbers.NumFail.{NumFail}
use Rattle.ae_num.specs.Forms.{meaning, SameMeaning, IsNormal, first_wide, IfWide, multiple_of, scale_steps}
use Rattle.ae_base.proofs.Results.{if_ok_both}
use Rattle.ae_rules.specs.Linear.{Linear}
use Rattle.ae_numeric.specs.Stated.{Computation, scaled}
use Rattle.ae_numeric.specs.Computing.{IsResult, IsFormOf, IsWideIn}
use Rattle.ae_numeric.specs.Inner.Sums as spec
use Rattle.ae_numeric.proofs.Meanings.{multiple_form}
use Rattle.ae_numeric.proofs.Computations.{scaled_result, scaled_wide_before, scaled_wide, err_is, if_err}
use Rattle.ae_numeric.proofs.combinations.scaled_difference.Goals as goal

pub returns-in_err-form-clause-wide : goal.returns-in_err-form-clause-wide
returns-in_err-form-clause-wide c =
    let gap : Computation = spec.difference_of c.args.relation c.args.left.now c.args.right.now in
    err_is c.from_residual.result c.in_err-form.field-0.0 (IsWideIn (scaled c.args.times (pos 1) gap) c.args.keys.now) c.from_residual.ensures.1
    (scaled_wide_before c.args.times (pos 1) gap c.args.keys.now c.in_err-form.field-0.0 c.in_err-form.ensures.wide)

pub returns-clause-result : goal.returns-clause-result
returns-clause-result c =
    let gap : Computation = spec.difference_of c.args.relation c.args.left.now c.args.right.now in
    let f = c.in_ok-form.form in
    let z : to_z w128 (of_z w128 c.args.times) ≡ c.args.times = to_z-of_z w128 c.args.times c.ranges.times in
    if_ok_both c.scale.result (λ (g : Lin). g ≡ multiple_of c.args.times (pos 1) f) (λ (g : Lin). first_wide (scale_steps c.args.times (pos 1) f) ≡ None) (IsResult (scaled c.args.times (pos 1) gap) c.args.keys.now c.difference_of.new.keys)
    (λ (g : Lin) e w. scaled_result c.args.times (pos 1) gap c.args.keys.now c.difference_of.new.keys f g c.in_ok-form.ensures.result e w)
    (subst (λ t. IfOk c.scale.result (λ (g : Lin). g ≡ multiple_of t (pos 1) f)) z c.scale.ensures.form)
    (subst (λ t. IfOk c.scale.result (λ (g : Lin). first_wide (scale_steps t (pos 1) f) ≡ None)) z c.scale.ensures.fits)

pub returns-clause-meaning : goal.returns-clause-meaning
returns-clause-meaning c =
    let a : Linear = spec.meant c.args.relation c.args.left.now c.args.right.now in
    let f = c.in_ok-form.form in
    let z : to_z w128 (of_z w128 c.args.times) ≡ c.args.times = to_z-of_z w128 c.args.times c.ranges.times in
    if_ok_both c.scale.result IsNormal (λ (g : Lin). SameMeaning (meaning g) (scale (whole c.args.times) (meaning f))) (λ (g : Lin). IsFormOf c.difference_of.new.keys g (scale (whole c.args.times) a))
    (λ (g : Lin) n s. multiple_form c.difference_of.new.keys (whole c.args.times) f g a c.in_ok-form.ensures.meaning n s)
    c.scale.ensures.normal
    (subst (λ t. IfOk c.scale.result (λ (g : Lin). SameMeaning (meaning g) (scale (ratio t (pos 1)) (meaning f)))) z c.scale.ensures.exact)

pub returns-clause-wide : goal.returns-clause-wide
returns-clause-wide c =
    let gap : Computation = spec.difference_of c.args.relation c.args.left.now c.args.right.now in
    let f = c.in_ok-form.form in
    let z : to_z w128 (of_z w128 c.args.times) ≡ c.args.times = to_z-of_z w128 c.args.times c.ranges.times in
    if_err c.scale.result (λ e. IfWide e (λ w. first_wide (scale_steps c.args.times (pos 1) f) ≡ Some w)) (IsWideIn (scaled c.args.times (pos 1) gap) c.args.keys.now)
    (λ (e : NumFail) h. scaled_wide c.args.times (pos 1) gap c.args.keys.now c.difference_of.new.keys f e c.in_ok-form.ensures.result h)
    (subst (λ t. IfErr c.scale.result (λ e. IfWide e (λ w. first_wide (scale_steps t (pos 1) f) ≡ Some w))) z c.scale.ensures.wide)
