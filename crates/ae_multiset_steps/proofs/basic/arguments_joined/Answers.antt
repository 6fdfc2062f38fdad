use Rattle.ae_store.specs.Shapes.{shapes}
use Rattle.ae_store.specs.Terms.{terms}
use Rattle.ae_multiset_steps.proofs.Allowances.{arguments_step}
use Rattle.ae_multiset_steps.proofs.basic.arguments_joined.Goals as goal

pub add_many-requires-clause-allowed : goal.add_many-requires-clause-allowed
add_many-requires-clause-allowed c =
    arguments_step c.args.store.now.signature (terms (shapes c.args.store.now.nodes)) c.args.justs.now c.args.symbol.now c.names_of_symbols_have_a_step.ensures c.args.first c.args.second c.args.name c.requires.names c.requires.joins

pub add_many-requires-clause-built : goal.add_many-requires-clause-built
add_many-requires-clause-built c = c.requires.names.of_names

pub add_many-requires-clause-factors : goal.add_many-requires-clause-factors
add_many-requires-clause-factors c = tt
