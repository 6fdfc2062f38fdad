use Rattle.ae_types.specs.Inner.Enters.{sheet}
use Rattle.ae_types.proofs.EnterLaws.{adds_constant}
use Rattle.ae_types.proofs.enter.enter_constant.Goals as goal

pub returns-clause-grows : goal.returns-clause-grows
returns-clause-grows c = (adds_constant (sheet c.args.graph.now) (sheet c.add.new.graph) c.args.constant c.in_ok-place.place c.requires c.in_ok-place.ensures.ok).0

pub returns-clause-ok : goal.returns-clause-ok
returns-clause-ok c = (adds_constant (sheet c.args.graph.now) (sheet c.add.new.graph) c.args.constant c.in_ok-place.place c.requires c.in_ok-place.ensures.ok).1
