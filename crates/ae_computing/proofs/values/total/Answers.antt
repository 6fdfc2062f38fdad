use Rattle.std.proofs.Common.{◌≡◌, ◌∙◌, ap, drop, get_or, ◌+◌, map}
use Rattle.ae_math.specs.Fractions.{◌+ℚ◌, ◌*ℚ◌}
use Rattle.ae_math.proofs.FractionLaws.{zero_add_q}
use Rattle.ae_naturals.specs.Fractions.{value_of}
use Rattle.ae_computing.specs.Inner.Totals.{summand, coefficient, total}
use Rattle.ae_computing.proofs.TotalLaws.{total_step, none_total_left}
use Rattle.ae_computing.proofs.values.total.Goals as goal

pub loop-summand-init : goal.loop-summand-init
loop-summand-init c = ap (λ z. z +ℚ total (map summand c.args.summands.now) c.args.place) c.in_ok-sum.ensures ∙ zero_add_q _

pub loop-summand-preserved : goal.loop-summand-preserved
loop-summand-preserved c =
    let p = c.args.place in
    let ss = c.args.summands.now in
    let i = c.loop-summand.summand-index in
    let d = c.summand-item.result in
    let s = value_of c.loop-summand.sum in
    let rest = total (map summand (drop (i + 1) ss)) p in
    let product = c.in_ok-product.ensures ∙ ap (λ z. value_of d.factor *ℚ z) c.in_ok-number.ensures in
    let here : value_of d.factor *ℚ coefficient p d.value.now ≡ value_of (get_or ss i d).factor *ℚ coefficient p (get_or ss i d).value.now =
    λ j. value_of (c.summand-item.is j).factor *ℚ coefficient p (c.summand-item.is j).value.now in
    ap (λ z. z +ℚ rest) (c.in_ok-sum-2.ensures ∙ ap (λ z. s +ℚ z) product ∙ (λ j. s +ℚ here j))
    ∙ total_step p ss i d s c.loop-summand-test.true ∙ c.loop-summand.invariant

pub returns : goal.returns
returns c =
    none_total_left c.args.place c.args.summands.now c.loop-summand.summand-index (value_of c.loop-summand.sum) c.loop-summand-test.false
    ∙ c.loop-summand.invariant
