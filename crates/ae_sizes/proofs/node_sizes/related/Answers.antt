use Rattle.std.proofs.Common.{◌∙◌, false}
use Rattle.ae_elab.specs.Weights as rule
use Rattle.ae_elab.specs.Nodes.{tree_at, relation_of}
use Rattle.ae_sizes.specs.Inner.Weights.{weight}
use Rattle.ae_sizes.proofs.MeasureLaws.{relation_small}
use Rattle.ae_sizes.proofs.node_sizes.related.Goals as goal

pub returns : goal.returns
returns c = λ f es p.
    let v = weight false f (tree_at es c.args.left) in
    let w = weight false f (tree_at es c.args.right) in
    let r = relation_of c.args.relation in
    c.size_of.ensures (rule.within (rule.relation_nodes r) (rule.together v w))
    (c.within.ensures (rule.relation_nodes r) (rule.together v w) (c.relation_nodes.ensures ∙ relation_small r)
    (c.together.ensures v w (c.weight_at-first.ensures f es p) (c.weight_at-second.ensures f es p)))
