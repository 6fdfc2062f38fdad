use Rattle.ae_store.specs.Shapes.{shapes}
use Rattle.ae_store.specs.Terms.{terms}
use Rattle.ae_multiset_steps.proofs.Allowances.{turn_step, symbol_of}
use Rattle.ae_multiset_steps.proofs.basic.turned.Goals as goal

pub add_many-requires-clause-allowed : goal.add_many-requires-clause-allowed
add_many-requires-clause-allowed c =
    turn_step c.args.store.now.signature (terms (shapes c.args.store.now.nodes)) c.args.justs.now c.args.symbol.now c.requires.fits c.args.from.now c.args.to.now c.args.step c.requires.states

pub add_many-requires-clause-built : goal.add_many-requires-clause-built
add_many-requires-clause-built c = symbol_of c.args.store.now.signature (terms (shapes c.args.store.now.nodes)) c.args.justs.now c.requires.fits c.args.step c.args.symbol.now c.args.to.now c.args.from.now c.requires.states

pub add_many-requires-clause-factors : goal.add_many-requires-clause-factors
add_many-requires-clause-factors c = tt
