use Rattle.ae_explain.specs.Trail.{clause}
use Rattle.ae_propagation.proofs.Watching.{quiet_true, quiet_open}
use Rattle.ae_propagation.proofs.propagation.look_at.Goals as goal

pub returns-in_ok-push_unit-in-Unit-clause-says : goal.returns-in_ok-push_unit-in-Unit-clause-says
returns-in_ok-push_unit-in-Unit-clause-says g c n =
    quiet_true c.push_unit.new.trail.assigned n (clause c.args.coded.now.clauses c.args.number) c.push_unit.ensures.lawful.apart c.in_ok-push_unit-in-Unit.ensures.made

pub returns-in-True-clause-says : goal.returns-in-True-clause-says
returns-in-True-clause-says g c n = quiet_true c.args.trail.now.assigned n (clause c.args.coded.now.clauses c.args.number) c.requires.lawful.apart c.in-True.ensures.state

pub returns-in-Open-clause-says : goal.returns-in-Open-clause-says
returns-in-Open-clause-says g c n = quiet_open c.args.trail.now.assigned n (clause c.args.coded.now.clauses c.args.number) c.requires.lawful.apart c.in-Open.ensures.state
