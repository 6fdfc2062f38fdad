use Rattle.std.proofs.Common.{arith}
use Rattle.ae_store.specs.Shapes.{shapes}
use Rattle.ae_store.specs.Terms.{terms}
use Rattle.ae_multiset_steps.proofs.Allowances.{one_step, order_step}
use Rattle.ae_multiset_steps.proofs.basic.reordered.Goals as goal

pub add_many-requires-clause-allowed : goal.add_many-requires-clause-allowed
add_many-requires-clause-allowed c =
    one_step c.args.store.now.signature (terms (shapes c.args.store.now.nodes)) c.args.justs.now c.args.symbol.now c.args.from.now c.args.to.now c.requires.names c.requires.same c.requires.some (omega arith)

pub add_many-requires-2-clause-allowed : goal.add_many-requires-2-clause-allowed
add_many-requires-2-clause-allowed c =
    order_step c.args.store.now.signature (terms (shapes c.args.store.now.nodes)) c.args.justs.now c.args.symbol.now c.orders_have_a_step.ensures c.args.from.now c.args.to.now c.requires.names c.requires.same (omega arith)

pub add_many-requires-clause-built : goal.add_many-requires-clause-built
add_many-requires-clause-built c = c.requires.names.of_names

pub add_many-requires-2-clause-built : goal.add_many-requires-2-clause-built
add_many-requires-2-clause-built c = c.requires.names.of_names

pub add_many-requires-clause-factors : goal.add_many-requires-clause-factors
add_many-requires-clause-factors c = tt

pub add_many-requires-2-clause-factors : goal.add_many-requires-2-clause-factors
add_many-requires-2-clause-factors c = tt
