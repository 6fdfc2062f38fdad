use Rattle.std.proofs.Common.{◌∙◌}
use Rattle.ae_math.specs.Forms.{single}
use Rattle.ae_num.specs.declared.forms.Lin.{Lin}
use Rattle.ae_num.specs.Forms.{IsNormal}
use Rattle.std.proofs.lemmas.Result.{IfOk-weaker}
use Rattle.ae_num.proofs.ReductionLaws.{read_back}
use Rattle.ae_rules.specs.Linear.{times}
use Rattle.ae_numeric.specs.Computing.{IsFormOf}
use Rattle.ae_numeric.proofs.NamedLaws.{product_left, product_right, product_opaque, empty_number}
use Rattle.ae_numeric.proofs.ComputedLaws.{if_three}
use Rattle.ae_numeric.proofs.forms.form_product.Goals as goal

pub returns-then-is_empty-clause-meaning : goal.returns-then-is_empty-clause-meaning
returns-then-is_empty-clause-meaning c f g p q =
    let x = c.args.left.now in
    let y = c.args.right.now in
    let ks = c.args.keys.now in
    if_three c.scale.result _ IsNormal _ (λ z. IsFormOf ks z (times c.args.whole.now f g))
    (λ (z : Lin) e n s. product_left ks c.args.whole.now z x y f g _ _ (read_back x.constant c.requires.left.within.1.0) (read_back x.den c.requires.left.within.0) p q (empty_number x c.is_empty.result c.is_empty.ensures ∙ c.if-is_empty.true) e n s) c.scale.ensures.form c.scale.ensures.normal c.scale.ensures.exact

pub returns-then-is_empty-2-clause-meaning : goal.returns-then-is_empty-2-clause-meaning
returns-then-is_empty-2-clause-meaning c f g p q =
    let x = c.args.left.now in
    let y = c.args.right.now in
    let ks = c.args.keys.now in
    if_three c.scale-then-is_empty-2.result _ IsNormal _ (λ z. IsFormOf ks z (times c.args.whole.now f g))
    (λ (z : Lin) e n s. product_right ks c.args.whole.now z x y f g _ _ (read_back y.constant c.requires.right.within.1.0) (read_back y.den c.requires.right.within.0) p q (empty_number x c.is_empty.result c.is_empty.ensures ∙ c.if-is_empty.false) (empty_number y c.is_empty-2.result c.is_empty-2.ensures ∙ c.if-is_empty-2.true) e n s)
    c.scale-then-is_empty-2.ensures.form c.scale-then-is_empty-2.ensures.normal c.scale-then-is_empty-2.ensures.exact

pub returns-clause-meaning : goal.returns-clause-meaning
returns-clause-meaning c f g p q =
    let x = c.args.left.now in
    let y = c.args.right.now in
    IfOk-weaker c.opaque_form.result (λ z. IsFormOf c.opaque_form.new.keys z (single c.args.whole.now)) (λ z. IsFormOf c.opaque_form.new.keys z (times c.args.whole.now f g))
    (λ (z : Lin) made. product_opaque c.args.keys.now c.opaque_form.new.keys c.args.whole.now z x y f g p q (empty_number x c.is_empty.result c.is_empty.ensures ∙ c.if-is_empty.false)
    (empty_number y c.is_empty-2.result c.is_empty-2.ensures ∙ c.if-is_empty-2.false) made) c.opaque_form.ensures.meaning
