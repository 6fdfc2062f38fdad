use Rattle.std.specs.Prelude.{List, map, IfOk}
use Rattle.std.proofs.Common.{subst, sym}
use Rattle.ae_num.specs.Limits.{FitsLimits}
use Rattle.ae_num.proofs.Rests.{small_factor}
use Rattle.ae_core.specs.declared.proofs.Scaled.{Scaled}
use Rattle.ae_state_steps.specs.ValueSteps.{name_side, value_side}
use Rattle.ae_value_steps.specs.Stating.{AddsStep}
use Rattle.std.proofs.Common.{rules}
use mir.Syntax.{w128}
use mir.Val.{SFits}
use Rattle.ae_store.specs.Shapes.{shapes}
use Rattle.ae_store.specs.Terms.{terms}
use Rattle.ae_just.proofs.BuiltSides.{numbers_of}
use Rattle.ae_value_steps.proofs.Readings.{r, put_allowed}
use Rattle.ae_value_steps.proofs.Factors.{positive_fits, read_fits, two_factors}
use Rattle.ae_value_steps.proofs.changes.state_put.Goals as goal

pub add_value-requires-clause-allowed : goal.add_value-requires-clause-allowed
add_value-requires-clause-allowed c =
    let fq : SFits w128 c.quotient-times.result = search rules in
    let fp : SFits w128 c.product.result = search rules in
    let fd : SFits w128 c.args.before.den = search rules in
    let ff : SFits w128 c.args.before.factor = search rules in
    put_allowed c.args.store.now.signature (terms (shapes c.args.store.now.nodes)) c.args.justs.now c.args.real c.args.name c.args.put.now.name c.args.before.step c.args.put.now.step c.args.value.now c.requires.before.0 c.args.put.now.value.now c.args.before.den c.args.before.factor c.quotient-times.result c.product.result c.in_ok-parts.parts c.requires.written c.requires.before.1 c.requires.put
    c.requires.before.2 c.requires.before.3 c.quotient-times.ensures.positive fq fp fd ff c.quotient-times.ensures.times c.product.ensures c.changed_values_have_a_step.ensures c.requires.before.4 c.in_ok-parts.ensures

pub returns-clause-added : goal.returns-clause-added
returns-clause-added c =
    subst (λ (ps : List Scaled). IfOk c.add_value.result (λ id. AddsStep c.args.justs.now c.add_value.new.justs id (name_side c.args.real c.args.name c.args.value.now) (value_side c.args.real c.args.value.now) (map (λ p. p.line) ps))) c.in_ok-parts.ensures c.add_value.ensures.added

pub add_value-requires-clause-numbers : goal.add_value-requires-clause-numbers
add_value-requires-clause-numbers c = numbers_of c.args.store.now.signature (terms (shapes c.args.store.now.nodes)) c.args.real c.args.name c.requires.written.name

pub add_value-requires-clause-factors : goal.add_value-requires-clause-factors
add_value-requires-clause-factors c =
    let fq : SFits w128 c.quotient-times.result = search rules in
    let old = c.requires.before.0 in
    let factor : FitsLimits c.args.before.factor = subst FitsLimits (sym c.requires.before.3) (small_factor old.parts c.args.put.now.name (c.requires.before.1).written.normal.within.1.1) in
    two_factors (r c.quotient-times.result) _ _ _ _ _ (positive_fits c.quotient-times.result c.quotient-times.ensures.positive fq)
    (read_fits c.args.put.now.value.now.den c.requires.put.written.normal.within.0) (read_fits c.args.before.factor factor) c.in_ok-parts.ensures
