use Rattle.std.proofs.Common.{subst}
use Rattle.ae_goal_parts.specs.Inner.Shown.{MayBeShown}
use Rattle.ae_goal_parts.proofs.items.answer_part.Goals as goal

pub valid_part-requires-clause-derives : goal.valid_part-requires-clause-derives
valid_part-requires-clause-derives c = (subst (MayBeShown c.args.problem.now c.args.goal) c.in-Valid.is c.requires.may_be).0

pub valid_part-requires-clause-writable : goal.valid_part-requires-clause-writable
valid_part-requires-clause-writable c = (subst (MayBeShown c.args.problem.now c.args.goal) c.in-Valid.is c.requires.may_be).1
