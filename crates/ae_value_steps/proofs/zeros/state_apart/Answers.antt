use Rattle.std.specs.Prelude.{pos, List, [], map, IfOk}
use Rattle.std.proofs.Common.{subst}
use Rattle.ae_core.specs.declared.proofs.Scaled.{Scaled}
use Rattle.ae_just.specs.declared.steps.Side.TheVariants as side
use Rattle.ae_state_steps.specs.ValueSteps.{value_side}
use Rattle.ae_value_steps.specs.Stating.{AddsStep}
use Rattle.std.proofs.Common.{rules}
use mir.Syntax.{w128}
use mir.Val.{SFits}
use Rattle.ae_store.specs.Shapes.{shapes}
use Rattle.ae_store.specs.Terms.{terms}
use Rattle.ae_just.proofs.BuiltSides.{numbers_of}
use Rattle.ae_value_steps.proofs.Readings.{r, apart_allowed}
use Rattle.ae_value_steps.proofs.Factors.{positive_fits, product_fits, negated_fits, read_fits, three_factors}
use Rattle.ae_value_steps.proofs.zeros.state_apart.Goals as goal

pub add_zero-requires-clause-allowed : goal.add_zero-requires-clause-allowed
add_zero-requires-clause-allowed c =
    let fq : SFits w128 c.quotient-times.result = search rules in
    let fp : SFits w128 c.product-dens.result = search rules in
    let fm : SFits w128 c.negated.result = search rules in
    apart_allowed c.args.store.now.signature (terms (shapes c.args.store.now.nodes)) c.args.justs.now c.args.real c.args.left.now.name c.args.right.now.name c.args.equal c.args.left.now.step c.args.right.now.step c.args.left.now.value.now c.args.right.now.value.now c.args.form.now c.quotient-times.result c.product-dens.result c.negated.result c.in_ok-parts.parts c.requires.form c.requires.left c.requires.right c.requires.equal c.quotient-times.ensures.positive fq fp fm
    c.negated.ensures c.quotient-times.ensures.times c.product-dens.ensures c.solved_equations_have_steps.ensures.apart c.requires.difference c.in_ok-parts.ensures

pub returns-clause-added : goal.returns-clause-added
returns-clause-added c =
    subst (λ (ps : List Scaled). IfOk c.add_zero.result (λ id. AddsStep c.args.justs.now c.add_zero.new.justs id (value_side c.args.real c.args.form.now) (side.Sum [] (pos 0) c.args.real) (map (λ p. p.line) ps))) c.in_ok-parts.ensures c.add_zero.ensures.added

pub add_zero-requires-clause-numbers : goal.add_zero-requires-clause-numbers
add_zero-requires-clause-numbers c = numbers_of c.args.store.now.signature (terms (shapes c.args.store.now.nodes)) c.args.real c.args.left.now.name c.requires.left.written.name

pub add_zero-requires-clause-factors : goal.add_zero-requires-clause-factors
add_zero-requires-clause-factors c =
    let fq : SFits w128 c.quotient-times.result = search rules in
    three_factors (r c.quotient-times.result) _ _ _ _ _ _ _ (positive_fits c.quotient-times.result c.quotient-times.ensures.positive fq)
    (product_fits c.product-dens.result c.args.left.now.value.now.den c.args.right.now.value.now.den c.product-dens.ensures c.requires.left.written.normal.within.0 c.requires.right.written.normal.within.0 c.requires.within)
    (negated_fits c.negated.result c.args.right.now.value.now.den c.negated.ensures c.requires.right.written.normal.within.0) (read_fits c.args.left.now.value.now.den c.requires.left.written.normal.within.0) c.in_ok-parts.ensures
