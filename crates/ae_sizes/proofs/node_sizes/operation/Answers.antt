use Rattle.std.proofs.Common.{refl}
use Rattle.ae_elab.specs.Nodes.{trees_at}
use Rattle.ae_sizes.specs.Inner.Weights as own
use Rattle.ae_sizes.proofs.node_sizes.operation.Goals as goal

pub returns : goal.returns
returns c = λ f es p.
    c.within.ensures 1 (own.all_standing own.once 0 (own.weight_list c.args.last f (trees_at es c.args.terms.now))) refl (c.weigh.ensures f es p)
