use Rattle.std.proofs.Common.{◌≡◌, pos, ◌<ℤ◌, sym, subst, rules}
use Rattle.std.proofs.lemmas.Int.{to_z-of_z}
use mir.Syntax.{w128}
use Rattle.ae_num.specs.declared.forms.Lin.{Lin}
use Rattle.ae_num.specs.Forms.{IsNormal, lowest, Reduced}
use Rattle.std.proofs.lemmas.Result.{IfOk-weaker}
use Rattle.ae_num.proofs.NormalLaws.{positive_divisor, quotient_reduced, quotient_normal}
use Rattle.ae_num.proofs.LowestLaws.{quotient_lowest}
use Rattle.ae_num.proofs.reduction.reduced.Goals as goal

pub divide-requires : goal.divide-requires
divide-requires c =
    let a = c.common_divisor.ensures in
    subst (λ z. pos 0 <ℤ z) (sym (to_z-of_z w128 c.common_divisor.result (search rules))) (positive_divisor c.common_divisor.result c.args.whole.now.den a.sign c.requires.positive (a.common.0).0)

pub returns-clause-exact : goal.returns-clause-exact
returns-clause-exact c =
    let a = c.common_divisor.ensures in
    IfOk-weaker c.divide.result _ (Reduced c.args.whole.now)
    (λ (q : Lin) e. quotient_reduced c.args.whole.now q c.common_divisor.result _ (to_z-of_z w128 c.common_divisor.result (search rules)) a.sign c.requires.positive a.common e) c.divide.ensures

pub returns-clause-normal : goal.returns-clause-normal
returns-clause-normal c =
    let a = c.common_divisor.ensures in
    let r = c.requires in
    IfOk-weaker c.divide.result _ IsNormal
    (λ (q : Lin) e. quotient_normal c.args.whole.now q c.common_divisor.result _ (to_z-of_z w128 c.common_divisor.result (search rules)) a.sign r.positive r.rising r.nonzero r.within a.common e) c.divide.ensures

pub returns-clause-form : goal.returns-clause-form
returns-clause-form c =
    let a = c.common_divisor.ensures in
    IfOk-weaker c.divide.result _ (λ q. q ≡ lowest c.args.whole.now)
    (λ (q : Lin) e. quotient_lowest c.args.whole.now q c.common_divisor.result _ (to_z-of_z w128 c.common_divisor.result (search rules)) a.sign c.requires.positive a.common e) c.divide.ensures
