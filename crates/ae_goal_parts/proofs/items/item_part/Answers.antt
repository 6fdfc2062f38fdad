use Rattle.ae_core.specs.declared.problems.Item.TheVariants.{Axiom, Goal}
use Rattle.ae_goal_parts.specs.Parts.{of_axiom}
use Rattle.ae_goal_parts.proofs.GoalItems.{axiom_is_no_goal, item_at}
use Rattle.ae_goal_parts.proofs.items.item_part.Goals as goal

pub goal_part-requires-clause-named : goal.goal_part-requires-clause-named
goal_part-requires-clause-named g c = record {
  vars = c.in-Goal.rigid;
  body = c.in-Goal.body;
  is_goal = item_at c.args.problem.now.items c.as_slice-items.result.now c.args.place c.index-items-place.result (Goal c.in-Goal.name c.in-Goal.rigid c.in-Goal.body)
      c.as_slice-items.ensures c.requires.place c.index-items-place.is c.in-Goal.is;
}

pub returns-in-Axiom-clause-part : goal.returns-in-Axiom-clause-part
returns-in-Axiom-clause-part g c =
    of_axiom c.in-Axiom.name c.in-Axiom.vars c.in-Axiom.body
    (item_at c.args.problem.now.items c.as_slice-items.result.now c.args.place c.index-items-place.result (Axiom c.in-Axiom.name c.in-Axiom.vars c.in-Axiom.body)
    c.as_slice-items.ensures c.requires.place c.index-items-place.is c.in-Axiom.is)
    c.new.ensures.items

pub returns-in-Axiom-clause-read_back : goal.returns-in-Axiom-clause-read_back
returns-in-Axiom-clause-read_back g c = λ name vars body e.
    absurd (axiom_is_no_goal c.args.problem.now.items c.args.place c.in-Axiom.name c.in-Axiom.vars c.in-Axiom.body name vars body
    (item_at c.args.problem.now.items c.as_slice-items.result.now c.args.place c.index-items-place.result (Axiom c.in-Axiom.name c.in-Axiom.vars c.in-Axiom.body)
    c.as_slice-items.ensures c.requires.place c.index-items-place.is c.in-Axiom.is) e)
