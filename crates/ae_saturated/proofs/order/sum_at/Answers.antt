use Rattle.std.proofs.Common.{◌∙◌, ap, drop, ◌+◌, pos}
use Rattle.ae_math.specs.Fractions.{◌+ℚ◌}
use Rattle.ae_math.specs.Forms.{sum_of}
use Rattle.ae_math.proofs.FractionLaws.{zero_add_q}
use Rattle.ae_num.specs.declared.forms.Part.{Part}
use Rattle.ae_journal.specs.States.{at_point}
use Rattle.ae_naturals.specs.Fractions.{value_of}
use Rattle.ae_computing.proofs.TotalLaws.{parts_over}
use Rattle.ae_saturated.proofs.OrderTests.{sum_step, no_part_left}
use Rattle.ae_saturated.proofs.order.sum_at.Goals as goal

pub loop-part-init : goal.loop-part-init
loop-part-init c =
    ap (λ z. z +ℚ sum_of (at_point c.args.point.now) (parts_over c.args.form.now.den c.as_slice-parts.result.now)) c.in_ok-sum.ensures ∙ zero_add_q _

pub loop-part-preserved : goal.loop-part-preserved
loop-part-preserved c =
    let points = c.args.point.now in
    let ps = c.as_slice-parts.result.now in
    let i = c.loop-part.part-index in
    let none : Part = record { key = 0; factor = pos 0 } in
    let s = value_of c.loop-part.sum in
    let rest = sum_of (at_point points) (parts_over c.args.form.now.den (drop (i + 1) ps)) in
    ap (λ z. z +ℚ rest) (c.in_ok-sum-2.ensures ∙ ap (λ z. s +ℚ z) c.in_ok-product.ensures)
    ∙ sum_step points c.args.form.now.den ps i none s c.loop-part-test.true ∙ c.loop-part.invariant

pub returns : goal.returns
returns c =
    no_part_left c.args.point.now c.args.form.now.den c.as_slice-parts.result.now c.loop-part.part-index (value_of c.loop-part.sum) c.loop-part-test.false
    ∙ c.loop-part.invariant ∙ ap (λ ps. sum_of (at_point c.args.point.now) (parts_over c.args.form.now.den ps)) c.as_slice-parts.ensures
