use Rattle.ae_searching.proofs.Firing.{holds_by}
use Rattle.ae_searching.proofs.levels.is_true_by.Goals as goal

pub returns-then-is_true : goal.returns-then-is_true
returns-then-is_true c = holds_by c.args.trail.now.assigned c.as_slice-assigned.ensures.apart c.args.lit.now c.args.level c.level_of.result c.level_of.ensures c.if-is_true.ensures
