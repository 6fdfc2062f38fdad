use Rattle.std.proofs.Common.{refl}
use Rattle.ae_elab.specs.Nodes.{trees_at}
use Rattle.ae_elab.specs.Weights as rule
use Rattle.ae_sizes.specs.Inner.Weights as own
use Rattle.ae_sizes.proofs.node_sizes.application.Goals as goal

pub returns : goal.returns
returns c = λ f es ss p q.
    let w = own.all_standing own.once 0 (own.weight_list c.args.last f (trees_at es c.args.terms.now)) in
    let s = rule.sort_sizes f ss in
    c.within.ensures 1 (rule.beside s w) refl (c.beside.ensures s w q (c.weigh.ensures f es p))
