use Rattle.std.proofs.Common.{◌∙◌, ◌++◌, refl, ap}
use Rattle.ae_elab.specs.Nodes.{claim_at, patterns_at}
use Rattle.ae_elab.specs.Weights as rule
use Rattle.ae_sizes.specs.Inner.Counted.{counted}
use Rattle.ae_sizes.specs.Inner.Weights as own
use Rattle.std.proofs.Common.{Some}
use Rattle.ae_sizes.proofs.MeasureLaws.{formula_is}
use Rattle.ae_sizes.proofs.node_sizes.quantified.Goals as goal

pub returns : goal.returns
returns c = λ f es xs ss p q.
    let a = claim_at es c.args.body in
    let ps = patterns_at es c.args.triggers.now in
    let ts = rule.sort_sizes f ss ++ own.pattern_sizes f ps in
    formula_is c.block_size.result (counted (rule.block_size (rule.merges c.args.quantifier ps a) ts (own.claim_size f a))) (Some c.args.quantifier) (Some c.args.quantifier)
    (c.block_size.ensures ts (own.claim_size f a) (c.pattern_sizes-around.ensures f es (rule.sort_sizes f ss) p q) (c.size_at.ensures f es p)
    ∙ ap (λ m. counted (rule.block_size m ts (own.claim_size f a))) (c.merges-merged.ensures es a (c.block_at.ensures f es p)))
    refl
