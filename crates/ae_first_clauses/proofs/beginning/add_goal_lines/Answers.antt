use Rattle.std.proofs.Common.{sym, ap, ◌∙◌, ◌≡◌, None, Some, List, slice_get}
use Rattle.std.specs.Option.{option_copied}
use Rattle.ae_core.specs.declared.problems.Item.{Item}
use Rattle.ae_first_clauses.proofs.Begun.{without_goal, item_none, item_axiom, item_goal}
use Rattle.ae_first_clauses.proofs.beginning.add_goal_lines.Goals as goal

pub returns-in-None : goal.returns-in-None
returns-in-None c =
    let at : slice_get c.args.problem.now.items c.args.goal ≡ None = ap (λ (zs : List Item). slice_get zs c.args.goal) (sym c.as_slice.ensures) ∙ sym c.at.ensures ∙ ap option_copied c.in-None.is in
    record { first = without_goal c.args.problem.now c.args.goal c.args.first.now.lines.items c.args.first.now.clauses (item_none c.args.problem.now c.args.goal at) c.requires.begun }

pub returns-in-Axiom : goal.returns-in-Axiom
returns-in-Axiom c =
    let at : slice_get c.args.problem.now.items c.args.goal ≡ Some c.in-Some.item.now = ap (λ (zs : List Item). slice_get zs c.args.goal) (sym c.as_slice.ensures) ∙ sym c.at.ensures ∙ ap option_copied c.in-Some.is in
    record { first = without_goal c.args.problem.now c.args.goal c.args.first.now.lines.items c.args.first.now.clauses (item_axiom c.args.problem.now c.args.goal c.in-Axiom.name c.in-Axiom.vars c.in-Axiom.body (at ∙ ap (λ (x : Item). Some x) c.in-Axiom.is)) c.requires.begun }

pub add_both-requires-clause-is : goal.add_both-requires-clause-is
add_both-requires-clause-is c =
    let at : slice_get c.args.problem.now.items c.args.goal ≡ Some c.in-Some.item.now = ap (λ (zs : List Item). slice_get zs c.args.goal) (sym c.as_slice.ensures) ∙ sym c.at.ensures ∙ ap option_copied c.in-Some.is in
    item_goal c.args.problem.now c.args.goal c.in-Goal.name c.in-Goal.rigid c.in-Goal.body (at ∙ ap (λ (x : Item). Some x) c.in-Goal.is)
