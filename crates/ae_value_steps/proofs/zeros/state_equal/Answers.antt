use Rattle.ae_store.specs.Shapes.{shapes}
use Rattle.ae_store.specs.Terms.{terms}
use Rattle.ae_value_steps.proofs.Readings.{r, equal_allowed}
use Rattle.ae_value_steps.proofs.Factors.{one_fits, minus_one_fits, read_fits, two_factors}
use Rattle.ae_value_steps.proofs.zeros.state_equal.Goals as goal

pub add_equal-requires-clause-allowed : goal.add_equal-requires-clause-allowed
add_equal-requires-clause-allowed c =
    equal_allowed c.args.store.now.signature (terms (shapes c.args.store.now.nodes)) c.args.justs.now c.args.real c.args.left.now.name c.args.right.now.name c.args.left.now.step c.args.right.now.step c.args.left.now.value.now c.args.right.now.value.now c.in_ok-parts.parts c.requires.left c.requires.right c.requires.same c.names_of_one_value_have_a_step.ensures c.in_ok-parts.ensures

pub add_equal-requires-clause-factors : goal.add_equal-requires-clause-factors
add_equal-requires-clause-factors c =
    two_factors (r c.args.left.now.value.now.den) _ _ _ _ _ (read_fits c.args.left.now.value.now.den c.requires.left.written.normal.within.0) one_fits minus_one_fits c.in_ok-parts.ensures
