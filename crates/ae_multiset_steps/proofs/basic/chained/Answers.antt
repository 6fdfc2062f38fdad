use Rattle.ae_store.specs.Shapes.{shapes}
use Rattle.ae_store.specs.Terms.{terms}
use Rattle.ae_multiset_steps.proofs.Allowances.{chain_step, symbol_of}
use Rattle.ae_multiset_steps.proofs.basic.chained.Goals as goal

pub add_many-requires-clause-allowed : goal.add_many-requires-clause-allowed
add_many-requires-clause-allowed c =
    let s = c.requires.states in
    chain_step c.args.store.now.signature (terms (shapes c.args.store.now.nodes)) c.args.justs.now c.args.symbol.now c.requires.fits c.args.from.now s.0 c.args.to.now c.args.first c.args.second s.1 s.2

pub add_many-requires-clause-built : goal.add_many-requires-clause-built
add_many-requires-clause-built c =
    let s = c.requires.states in
    symbol_of c.args.store.now.signature (terms (shapes c.args.store.now.nodes)) c.args.justs.now c.requires.fits c.args.first c.args.symbol.now c.args.from.now s.0 s.1

pub add_many-requires-clause-factors : goal.add_many-requires-clause-factors
add_many-requires-clause-factors c = tt
