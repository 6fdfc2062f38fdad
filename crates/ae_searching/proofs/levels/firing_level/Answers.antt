use Rattle.ae_searching.proofs.Firing.{fires_at, fires_never, fires_no_more}
use Rattle.ae_searching.proofs.levels.firing_level.Goals as goal

pub returns-in-None : goal.returns-in-None
returns-in-None c = fires_never c.args.trail.now.assigned c.args.clause.now c.in-None.ensures

pub returns-then-has_true_by : goal.returns-then-has_true_by
returns-then-has_true_by c = fires_no_more c.args.trail.now.assigned c.args.clause.now c.in-Some.level c.in-Some.ensures c.if-has_true_by.ensures

pub returns-else-has_true_by : goal.returns-else-has_true_by
returns-else-has_true_by c = fires_at c.args.trail.now.assigned c.args.clause.now c.in-Some.level c.in-Some.ensures c.if-has_true_by.ensures
