use Rattle.ae_propagation.proofs.Settling.{quiet}
use Rattle.ae_propagation.proofs.settle.settle.Goals as goal

pub returns-in-Nothing-clause-ends : goal.returns-in-Nothing-clause-ends
returns-in-Nothing-clause-ends c = quiet c.loop-k.trail.assigned c.args.clauses.now c.loop-k.invariant.lawful c.in-Nothing.ensures
