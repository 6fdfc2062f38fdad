use Rattle.ae_types.specs.Inner.Enters.{sheet}
use Rattle.ae_types.proofs.EnterLaws.{stands_known}
use Rattle.ae_types.proofs.enter.enter_variable.Goals as goal

pub returns-in-Some-clause-ok : goal.returns-in-Some-clause-ok
returns-in-Some-clause-ok c = stands_known (sheet c.args.graph.now) c.args.var c.in-Some.place c.requires (cc)
