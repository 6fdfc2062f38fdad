use Rattle.std.proofs.Common.{◌∙◌}
use Rattle.ae_unordered.proofs.Deciding.{said, left_open}
use Rattle.ae_unordered.proofs.pairs.is_left_open.Goals as goal

pub returns-then-is_true : goal.returns-then-is_true
returns-then-is_true c = said c.args.trail.now.assigned c.get.result.now c.args.one.now c.args.other.now (c.get.ensures ∙ c.in_ok-falling.ensures) c.if-is_true.ensures

pub returns : goal.returns
returns c = left_open c.args.trail.now.assigned c.get-2.result.now c.args.one.now c.args.other.now c.is_false.result (c.get-2.ensures ∙ c.in_ok-rising.ensures) c.is_false.ensures
