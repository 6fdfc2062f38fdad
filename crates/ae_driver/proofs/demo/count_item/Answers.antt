use Rattle.ae_core.specs.declared.problems.Item.TheVariants.{Goal}
use Rattle.ae_goal_parts.proofs.GoalItems.{item_at}
use Rattle.ae_driver.proofs.demo.count_item.Goals as goal

pub count_goal-requires-clause-named : goal.count_goal-requires-clause-named
count_goal-requires-clause-named c = record {
  vars = c.in-Goal.rigid;
  body = c.in-Goal.body;
  is_goal = item_at c.args.problem.now.items c.as_slice-items.result.now c.args.place c.index-items-place.result (Goal c.in-Goal.name c.in-Goal.rigid c.in-Goal.body)
      c.as_slice-items.ensures c.requires.place c.index-items-place.is c.in-Goal.is;
}
