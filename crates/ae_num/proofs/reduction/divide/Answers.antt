use Rattle.std.proofs.Common.{◌≤◌, ◌∙◌, ap, subst, length, map, rules}
use Rattle.std.proofs.lemmas.Int.{to_z-of_z}
use mir.Syntax.{w128}
use mir.Val.{SFits}
use Rattle.ae_num.specs.Forms.{divided_part}
use Rattle.ae_num.proofs.ReductionLaws.{quotient_read, take_all}
use Rattle.ae_num.proofs.reduction.divide.Goals as goal

pub returns : goal.returns
returns c =
    let form = c.args.form.now in
    let ended : length form.parts ≤ c.loop-part.part-index = subst (λ ps. length ps ≤ c.loop-part.part-index) c.as_slice-part-items.ensures c.loop-part-test.false in
    let den : SFits w128 form.den = search rules in
    let constant : SFits w128 form.constant = search rules in
    λ k. record {
      den = quotient_read form.den c.args.divisor den c.ranges.divisor c.requires k;
      parts = (c.loop-part.invariant ∙ ap (map _) (take_all form.parts c.loop-part.part-index ended) ∙ ap (λ d. map (divided_part d) form.parts) (to_z-of_z w128 c.args.divisor c.ranges.divisor)) k;
      constant = quotient_read form.constant c.args.divisor constant c.ranges.divisor c.requires k;
    }
