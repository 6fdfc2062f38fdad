use Rattle.std.specs.Prelude.{List, pos}
use Rattle.std.proofs.Common.{sym, subst}
use Rattle.ae_core.specs.declared.proofs.Scaled.{Scaled}
use Rattle.ae_store.specs.Shapes.{shapes}
use Rattle.ae_store.specs.Terms.{terms}
use Rattle.ae_just.specs.Steps.{IsAllowedStep}
use Rattle.ae_state_steps.specs.ValueSteps.{value_step}
use Rattle.ae_just.proofs.BuiltSides.{numbers_of}
use Rattle.ae_value_steps.proofs.Factors.{one_fits, no_factors}
use Rattle.ae_value_steps.proofs.sums.state_numeral.Goals as goal

pub add_value-requires-clause-allowed : goal.add_value-requires-clause-allowed
add_value-requires-clause-allowed c =
    subst (λ (ps : List Scaled). IsAllowedStep c.args.store.now.signature (terms (shapes c.args.store.now.nodes)) c.args.justs.now (value_step c.args.real c.args.name c.args.value.now (pos 1) ps)) (sym c.new.ensures)
    (c.first_values_have_a_step.ensures.numeral c.args.store.now.signature (terms (shapes c.args.store.now.nodes)) c.args.justs.now c.args.real c.args.name c.args.value.now c.requires.numeral.0 c.requires.numeral.1 c.requires.written c.requires.numeral.2 c.requires.numeral.3)

pub add_value-requires-clause-numbers : goal.add_value-requires-clause-numbers
add_value-requires-clause-numbers c = numbers_of c.args.store.now.signature (terms (shapes c.args.store.now.nodes)) c.args.real c.args.name c.requires.written.name

pub add_value-requires-clause-factors : goal.add_value-requires-clause-factors
add_value-requires-clause-factors c = no_factors (pos 1) _ one_fits c.new.ensures
