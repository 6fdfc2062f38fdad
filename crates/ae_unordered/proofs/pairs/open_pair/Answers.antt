use Rattle.ae_unordered.proofs.Deciding.{both_said, turned_open}
use Rattle.ae_unordered.proofs.pairs.open_pair.Goals as goal

pub returns-then-first : goal.returns-then-first
returns-then-first c = turned_open c.args.trail.now.assigned c.args.left.now c.args.right.now c.in_ok-first.first c.in_ok-turned.turned c.if-first.true c.in_ok-first.ensures c.in_ok-turned.ensures

pub returns-then-second : goal.returns-then-second
returns-then-second c = turned_open c.args.trail.now.assigned c.args.right.now c.args.left.now c.in_ok-second.second c.in_ok-same.same c.if-second.true c.in_ok-second.ensures c.in_ok-same.ensures

pub returns : goal.returns
returns c =
    both_said c.args.trail.now.assigned c.args.left.now c.args.right.now c.in_ok-first.first c.in_ok-second.second c.if-first.false c.if-second.false c.in_ok-first.ensures c.in_ok-second.ensures
