use Rattle.ae_first_clauses.proofs.Begun.{goal_begun, goal_added}
use Rattle.ae_first_clauses.proofs.beginning.add_both.Goals as goal

pub add_block-requires-clause-begun : goal.add_block-requires-clause-begun
add_block-requires-clause-begun c =
    let p = c.args.problem.now in
    let g = c.args.goal in
    let ls = c.args.first.now.lines.items in
    let cs = c.args.first.now.clauses in
    let ls2 = c.add_goal.new.first.lines.items in
    let cs2 = c.add_goal.new.first.clauses in
    goal_begun p g c.requires.lawful c.args.body.now c.requires.is ls ls2 cs cs2 c.requires.begun (goal_added p g c.requires.lawful c.args.body.now ls ls2 cs cs2 c.requires.is c.in_ok-add_goal.ensures.0 c.in_ok-add_goal.ensures.1)
