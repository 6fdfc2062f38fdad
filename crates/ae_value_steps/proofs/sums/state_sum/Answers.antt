use Rattle.std.proofs.Common.{rules}
use mir.Syntax.{w128}
use mir.Val.{SFits}
use Rattle.ae_store.specs.Shapes.{shapes}
use Rattle.ae_store.specs.Terms.{terms}
use Rattle.ae_just.proofs.BuiltSides.{numbers_of}
use Rattle.ae_value_steps.proofs.Readings.{r, sum_allowed}
use Rattle.ae_value_steps.proofs.Factors.{positive_fits, read_fits, two_factors}
use Rattle.ae_value_steps.proofs.sums.state_sum.Goals as goal

pub add_value-requires-clause-allowed : goal.add_value-requires-clause-allowed
add_value-requires-clause-allowed c =
    let fq : SFits w128 c.quotient-times.result = search rules in
    let fp : SFits w128 c.product.result = search rules in
    sum_allowed c.args.store.now.signature (terms (shapes c.args.store.now.nodes)) c.args.justs.now c.args.real c.args.name c.args.left.now.name c.args.right.now.name c.args.left.now.step c.args.right.now.step c.args.value.now c.args.left.now.value.now c.args.right.now.value.now c.quotient-times.result c.product.result c.in_ok-parts.parts c.requires.written c.requires.left c.requires.right
    c.quotient-times.ensures.positive fq fp c.quotient-times.ensures.times c.product.ensures c.sums_have_a_step.ensures.sum c.requires.is c.requires.sum c.in_ok-parts.ensures

pub add_value-requires-clause-numbers : goal.add_value-requires-clause-numbers
add_value-requires-clause-numbers c = numbers_of c.args.store.now.signature (terms (shapes c.args.store.now.nodes)) c.args.real c.args.name c.requires.written.name

pub add_value-requires-clause-factors : goal.add_value-requires-clause-factors
add_value-requires-clause-factors c =
    let fq : SFits w128 c.quotient-times.result = search rules in
    two_factors (r c.quotient-times.result) _ _ _ _ _ (positive_fits c.quotient-times.result c.quotient-times.ensures.positive fq)
    (read_fits c.args.right.now.value.now.den c.requires.right.written.normal.within.0) (read_fits c.args.left.now.value.now.den c.requires.left.written.normal.within.0) c.in_ok-parts.ensures
