use Rattle.std.specs.Prelude.{◌≡◌, pos, Some, None}
use Rattle.std.proofs.Common.{rules, subst, sym, to_z, of_z}
use mir.Syntax.{w128}
use Rattle.ae_math.specs.Forms.{plus, scale}
use Rattle.ae_num.specs.declared.forms.Lin.{Lin}
use Rattle.ae_num.specs.declared.numbers.NumFail.{NumFail}
use Rattle.ae_num.specs.Forms.{meaning, SameMeaning, IsNormal, first_wide, IfWide, sum_of, plus_steps}
use Rattle.ae_base.proofs.Results.{if_ok_both}
use Rattle.ae_rules.specs.Linear.{Linear}
use Rattle.ae_rules.specs.Lines.{Fact, states}
use Rattle.ae_math.specs.Fractions.{whole}
use Rattle.ae_numeric.specs.Stated.{Computation, scaled, added, known}
use Rattle.ae_numeric.specs.Computing.{IsResult, IsFormOf, IsWideIn}
use Rattle.ae_numeric.specs.Inner.Sums as spec
use Rattle.ae_numeric.proofs.Meanings.{sum_form, kept_form}
use Rattle.ae_numeric.proofs.Computations.{added_result, added_wide_before, added_wide, err_is, if_err}
use Rattle.ae_numeric.proofs.combinations.with_line.Goals as goal

pub returns-in_err-form-clause-wide : goal.returns-in_err-form-clause-wide
returns-in_err-form-clause-wide c =
    let r = c.args.relation in
    let s : Fact = states c.args.line.now in
    let more : Computation = scaled c.args.part.factor (pos 1) (spec.summed r s) in
    let e = c.in_err-form.field-0.0 in
    let z : to_z w128 (of_z w128 c.args.part.factor) ≡ c.args.part.factor = search rules in
    let wide : IsWideIn more c.args.keys.now e =
    subst (λ t. IsWideIn (scaled t (pos 1) (spec.summed r s)) c.args.keys.now e) z
    (subst (λ (s : Fact). IsWideIn (scaled (to_z w128 (of_z w128 c.args.part.factor)) (pos 1) (spec.summed r s)) c.args.keys.now e) (sym c.stated.ensures) c.in_err-form.ensures.wide) in
    err_is c.from_residual.result e (IsWideIn (added (known c.args.sum.now) more) c.args.keys.now) c.from_residual.ensures.1
    (added_wide_before c.args.sum.now more c.args.keys.now e wide)

pub returns-clause-result : goal.returns-clause-result
returns-clause-result c =
    let r = c.args.relation in
    let s : Fact = states c.args.line.now in
    let more : Computation = scaled c.args.part.factor (pos 1) (spec.summed r s) in
    let before = c.args.keys.now in
    let after = c.scaled_difference.new.keys in
    let f = c.in_ok-form.form in
    let z : to_z w128 (of_z w128 c.args.part.factor) ≡ c.args.part.factor = search rules in
    let is : IsResult more before after f =
    subst (λ t. IsResult (scaled t (pos 1) (spec.summed r s)) before after f) z
    (subst (λ (s : Fact). IsResult (scaled (to_z w128 (of_z w128 c.args.part.factor)) (pos 1) (spec.summed r s)) before after f) (sym c.stated.ensures) c.in_ok-form.ensures.result) in
    if_ok_both c.plus.result (λ (h : Lin). h ≡ sum_of c.args.sum.now f) (λ (h : Lin). first_wide (plus_steps c.args.sum.now f) ≡ None) (IsResult (added (known c.args.sum.now) more) before after)
    (λ (h : Lin) e w. added_result c.args.sum.now more before after f h is e w)
    c.plus.ensures.form c.plus.ensures.fits

pub returns-clause-meaning : goal.returns-clause-meaning
returns-clause-meaning c =
    let r = c.args.relation in
    let s : Fact = states c.args.line.now in
    let before = c.args.keys.now in
    let after = c.scaled_difference.new.keys in
    let f = c.in_ok-form.form in
    let b : Linear = scale (whole c.args.part.factor) (spec.meant r s.left s.right) in
    let z : to_z w128 (of_z w128 c.args.part.factor) ≡ c.args.part.factor = search rules in
    let is : IsFormOf after f b =
    subst (λ t. IsFormOf after f (scale (whole t) (spec.meant r s.left s.right))) z
    (subst (λ (s : Fact). IsFormOf after f (scale (whole (to_z w128 (of_z w128 c.args.part.factor))) (spec.meant r s.left s.right))) (sym c.stated.ensures) c.in_ok-form.ensures.meaning) in
    if_ok_both c.plus.result IsNormal (λ (h : Lin). SameMeaning (meaning h) (plus (meaning c.args.sum.now) (meaning f))) (λ (h : Lin). (a : Linear) → IsFormOf before c.args.sum.now a → IsFormOf after h (plus a b))
    (λ (h : Lin) n same. λ (a : Linear) p. sum_form after c.args.sum.now f h a b (kept_form before after c.args.sum.now a is.distinct c.in_ok-form.ensures.kept p) is n same)
    c.plus.ensures.normal c.plus.ensures.exact

pub returns-clause-wide : goal.returns-clause-wide
returns-clause-wide c =
    let r = c.args.relation in
    let s : Fact = states c.args.line.now in
    let more : Computation = scaled c.args.part.factor (pos 1) (spec.summed r s) in
    let before = c.args.keys.now in
    let after = c.scaled_difference.new.keys in
    let f = c.in_ok-form.form in
    let z : to_z w128 (of_z w128 c.args.part.factor) ≡ c.args.part.factor = search rules in
    let is : IsResult more before after f =
    subst (λ t. IsResult (scaled t (pos 1) (spec.summed r s)) before after f) z
    (subst (λ (s : Fact). IsResult (scaled (to_z w128 (of_z w128 c.args.part.factor)) (pos 1) (spec.summed r s)) before after f) (sym c.stated.ensures) c.in_ok-form.ensures.result) in
    if_err c.plus.result (λ e. IfWide e (λ w. first_wide (plus_steps c.args.sum.now f) ≡ Some w)) (IsWideIn (added (known c.args.sum.now) more) before)
    (λ (e : NumFail) h. added_wide c.args.sum.now more before after f e is h)
    c.plus.ensures.wide
