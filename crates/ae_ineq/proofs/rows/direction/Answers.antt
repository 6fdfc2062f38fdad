use Rattle.std.proofs.Common.{refl}
use Rattle.ae_base.proofs.Integers.{size_positive}
use Rattle.ae_base.proofs.Results.{if_ok_both}
use Rattle.ae_num.specs.declared.forms.Lin.{Lin}
use Rattle.ae_num.specs.Forms.{IsNormal, meaning, Reduced}
use Rattle.ae_ineq.specs.Inner.Primitive.{IsPrimitive}
use Rattle.ae_ineq.specs.Inner.Sets.{IsMultiple}
use Rattle.ae_ineq.proofs.LastLaws.{direction_means}
use Rattle.ae_ineq.proofs.Directions.{direction_primitive}
use Rattle.ae_ineq.proofs.rows.direction.Goals as goal

pub returns-clause-multiple : goal.returns-clause-multiple
returns-clause-multiple c =
    let l = c.args.form.now in
    let w = c.in_ok-whole.whole in
    let e = c.in_ok-whole.ensures in
    if_ok_both c.reduced.result (Reduced w) IsNormal (λ f. IsMultiple (meaning l) (meaning f))
    (λ (f : Lin) h n. direction_means l w f w.den refl e.parts e.constant c.requires.normal e.positive h n)
    c.reduced.ensures.exact c.reduced.ensures.normal

pub returns-clause-primitive : goal.returns-clause-primitive
returns-clause-primitive c =
    let l = c.args.form.now in
    let w = c.in_ok-whole.whole in
    let e = c.in_ok-whole.ensures in
    if_ok_both c.reduced.result (Reduced w) IsNormal IsPrimitive
    (λ (f : Lin) h n. direction_primitive l w f _ (size_positive w.den e.positive) refl e.parts e.constant c.requires.normal e.common h n)
    c.reduced.ensures.exact c.reduced.ensures.normal
