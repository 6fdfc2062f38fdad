use Rattle.std.specs.Prelude.{pos}
use Rattle.ae_store.specs.Shapes.{shapes}
use Rattle.ae_store.specs.Terms.{terms}
use Rattle.ae_just.proofs.BuiltSides.{numbers_of}
use Rattle.ae_value_steps.proofs.Readings.{covered_allowed}
use Rattle.ae_value_steps.proofs.Factors.{one_fits, read_fits, two_factors}
use Rattle.ae_value_steps.proofs.changes.state_covered.Goals as goal

pub add_value-requires-clause-allowed : goal.add_value-requires-clause-allowed
add_value-requires-clause-allowed c =
    covered_allowed c.args.store.now.signature (terms (shapes c.args.store.now.nodes)) c.args.justs.now c.args.real c.args.name c.args.of.now.name c.args.equal c.args.of.now.step c.args.of.now.value.now c.in_ok-parts.parts c.requires.written c.requires.of c.requires.equal c.covered_names_have_a_step.ensures c.in_ok-parts.ensures

pub add_value-requires-clause-numbers : goal.add_value-requires-clause-numbers
add_value-requires-clause-numbers c = numbers_of c.args.store.now.signature (terms (shapes c.args.store.now.nodes)) c.args.real c.args.name c.requires.written.name

pub add_value-requires-clause-factors : goal.add_value-requires-clause-factors
add_value-requires-clause-factors c =
    two_factors (pos 1) _ _ _ _ _ one_fits (read_fits c.args.of.now.value.now.den c.requires.of.written.normal.within.0) one_fits c.in_ok-parts.ensures
