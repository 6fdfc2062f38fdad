use Rattle.ae_sure_literals.proofs.Using.{flagged_by, unflagged}
use Rattle.ae_sure_literals.proofs.closing.fails_surely.Goals as goal

pub returns-then-not-is_false : goal.returns-then-not-is_false
returns-then-not-is_false c = unflagged c.args.trail.now.assigned c.args.flags.now c.args.lit.now c.if-not-is_false.ensures

pub returns : goal.returns
returns c = flagged_by c.args.trail.now.assigned c.args.flags.now c.args.lit.now c.flag_of.result c.flag_of.ensures c.if-not-is_false.ensures
