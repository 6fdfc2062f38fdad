use Rattle.std.proofs.Common.{◌∙◌, length, false, sym, ap}
use Rattle.ae_elab.specs.Nodes.{trees_at}
use Rattle.ae_elab.specs.Weights as rule
use Rattle.ae_sizes.specs.Inner.Counted.{counted}
use Rattle.ae_sizes.specs.Inner.Weights as own
use Rattle.ae_sizes.proofs.MeasureLaws.{weights_long}
use Rattle.ae_sizes.proofs.node_sizes.distinct.Goals as goal

pub returns : goal.returns
returns c = λ f es p.
    let ws = own.weight_list false f (trees_at es c.args.terms.now) in
    let n = length c.args.terms.now in
    let w = own.all_standing (own.in_pairs n) 0 ws in
    c.size_of.ensures (own.distinct_round n w) (c.conjunction.ensures w (c.weigh-weight.ensures f es p))
    ∙ ap (λ k. counted (rule.size_of (own.distinct_round k (own.all_standing (own.in_pairs k) 0 ws)))) (sym (weights_long false f es c.args.terms.now))
