use Rattle.std.proofs.Common.{true, false}
use Rattle.ae_elab.specs.Nodes.{trees_at}
use Rattle.ae_elab.specs.Trees as tree
use Rattle.ae_sizes.specs.Inner.Counted.{counted, counted_weight}
use Rattle.ae_sizes.specs.Inner.Weights as own
use Rattle.ae_sizes.proofs.MeasureLaws.{term_is}
use Rattle.ae_sizes.proofs.node_sizes.applied.Goals as goal

pub returns : goal.returns
returns c = λ f es ss p q.
    let t = tree.apply c.args.head ss (trees_at es c.args.terms.now) in
    let a = c.application-all.ensures f es ss p q in
    let b = c.application-last.ensures f es ss p q in
    term_is c.application-all.result c.application-last.result (counted_weight (own.weight false f t)) (counted_weight (own.weight true f t)) c.head_size-formula.result
    (counted (own.claim_size f (tree.claim_of t))) a b
    (c.head_size-formula.ensures f (tree.holds t) (c.standing_for.ensures (own.weight false f t) a))
