use Rattle.ae_types.specs.Inner.Enters.{sheet}
use Rattle.ae_types.proofs.EnterLaws.{adds_variable}
use Rattle.ae_types.proofs.enter.add_variable.Goals as goal

pub returns-in-Ok-clause-grows : goal.returns-in-Ok-clause-grows
returns-in-Ok-clause-grows c =
    (adds_variable (sheet c.args.graph.now) (sheet c.add.new.graph) c.insert.new.self.entries c.args.var c.in_ok-place.place c.requires.well c.requires.unknown c.in_ok-place.ensures.ok c.in-Ok.ensures.updates.0).0

pub returns-in-Ok-clause-ok : goal.returns-in-Ok-clause-ok
returns-in-Ok-clause-ok c =
    (adds_variable (sheet c.args.graph.now) (sheet c.add.new.graph) c.insert.new.self.entries c.args.var c.in_ok-place.place c.requires.well c.requires.unknown c.in_ok-place.ensures.ok c.in-Ok.ensures.updates.0).1
