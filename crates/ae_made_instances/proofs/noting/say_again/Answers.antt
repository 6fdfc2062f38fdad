use Rattle.std.proofs.Common.{refl}
use Rattle.ae_made_instances.proofs.Coming.{blocks_named, noted_again, searching_again, sorted}
use Rattle.ae_made_instances.proofs.noting.say_again.Goals as goal

pub say-requires-clause-same : goal.say-requires-clause-same
say-requires-clause-same g c = c.requires.searching.1.signature

pub say-requires-clause-sorted : goal.say-requires-clause-sorted
say-requires-clause-sorted g c =
    let t = c.args.task in
    sorted t.problem.now t.goal t.generations c.requires.searching.0 c.args.search.now c.requires.searching.1 c.requires.beside c.args.line.now c.requires.ready

pub say-requires-clause-blocks : goal.say-requires-clause-blocks
say-requires-clause-blocks g c = c.requires.beside.constants.sorted

pub say-requires-clause-there : goal.say-requires-clause-there
say-requires-clause-there g c =
    let t = c.args.task in
    blocks_named t.problem.now t.goal t.generations c.requires.searching.0 c.args.search.now c.requires.searching.1 c.requires.beside

pub returns-clause-searching : goal.returns-clause-searching
returns-clause-searching g c level s =
    let t = c.args.task in
    let o = c.args.search.now in
    let b = c.say.new in
    searching_again t.problem.now t.goal t.generations level o s c.requires.beside c.args.line.now c.requires.ready c.requires.there c.args.number (record o { store = b.store; ages = b.ages }) (record {
      brought = c.in_ok-say.ensures.brought;
      store = c.in_ok-say.ensures.store;
      solver = refl;
      journal = refl;
      lines = refl;
      items = refl;
      blocks = refl;
      known = refl;
      looked = refl;
      owners = refl;
      instances = refl;
    })

pub returns-clause-noted : goal.returns-clause-noted
returns-clause-noted g c =
    let t = c.args.task in
    let o = c.args.search.now in
    let b = c.say.new in
    noted_again t.problem.now t.goal t.generations c.requires.searching.0 o c.requires.searching.1 c.requires.beside c.args.line.now c.requires.ready c.requires.there c.args.number (record o { store = b.store; ages = b.ages }) (record {
      brought = c.in_ok-say.ensures.brought;
      store = c.in_ok-say.ensures.store;
      solver = refl;
      journal = refl;
      lines = refl;
      items = refl;
      blocks = refl;
      known = refl;
      looked = refl;
      owners = refl;
      instances = refl;
    })
