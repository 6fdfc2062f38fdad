use Rattle.ae_num.proofs.ReductionLaws.{division_ok}
use Rattle.ae_num.proofs.LowestLaws.{divisor_some, fraction_lowest, fraction_normal, fraction_means}
use Rattle.ae_num.proofs.forms.fraction.Goals as goal

pub nonzero_div-result : goal.nonzero_div-result
nonzero_div-result c =
    let r = c.requires in
    let g = c.gcd-divisor.ensures in
    division_ok c.args.bottom c.gcd-divisor.result r.bottom_within g.within (divisor_some c.args.top c.args.bottom c.gcd-divisor.result r.bottom r.top_within r.bottom_within g.sign g.within g.divisor)

pub nonzero_div-result-2 : goal.nonzero_div-result-2
nonzero_div-result-2 c =
    let r = c.requires in
    let g = c.gcd-divisor.ensures in
    division_ok c.args.top c.gcd-divisor.result r.top_within g.within (divisor_some c.args.top c.args.bottom c.gcd-divisor.result r.bottom r.top_within r.bottom_within g.sign g.within g.divisor)

pub returns-clause-form : goal.returns-clause-form
returns-clause-form c =
    let r = c.requires in
    let g = c.gcd-divisor.ensures in
    fraction_lowest c.args.top c.args.bottom c.gcd-divisor.result r.bottom r.top_within r.bottom_within g.sign g.within g.divisor c.new.result c.new.ensures

pub returns-clause-normal : goal.returns-clause-normal
returns-clause-normal c =
    let r = c.requires in
    let g = c.gcd-divisor.ensures in
    fraction_normal c.args.top c.args.bottom c.gcd-divisor.result r.bottom r.top_within r.bottom_within g.sign g.within g.divisor c.new.result c.new.ensures

pub returns-clause-meaning : goal.returns-clause-meaning
returns-clause-meaning c =
    let r = c.requires in
    let g = c.gcd-divisor.ensures in
    fraction_means c.args.top c.args.bottom c.gcd-divisor.result r.bottom r.top_within r.bottom_within g.sign g.within g.divisor c.new.result c.new.ensures
