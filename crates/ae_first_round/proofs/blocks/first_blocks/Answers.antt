use Rattle.std.proofs.Common.{sym, ap, ◌∙◌, ◌≡◌, None, Some, List, slice_get}
use Rattle.std.specs.Option.{option_copied}
use Rattle.ae_core.specs.declared.problems.Item.{Item}
use Rattle.ae_first_clauses.proofs.Begun.{item_none, item_axiom, item_goal}
use Rattle.ae_first_round.proofs.Opened.{without_goal}
use Rattle.ae_first_round.proofs.blocks.first_blocks.Goals as goal

pub returns-in-None : goal.returns-in-None
returns-in-None c =
    let p = c.args.problem.now in
    let at : slice_get p.items c.args.goal ≡ None = ap (λ (zs : List Item). slice_get zs c.args.goal) (sym c.as_slice.ensures) ∙ sym c.at.ensures ∙ ap option_copied c.in-None.is in
    without_goal p c.args.goal c.none.result.opened c.none.result.next (item_none p c.args.goal at) c.none.ensures.opened c.none.ensures.next

pub returns-in-Axiom : goal.returns-in-Axiom
returns-in-Axiom c =
    let p = c.args.problem.now in
    let at : slice_get p.items c.args.goal ≡ Some c.in-Some.item.now = ap (λ (zs : List Item). slice_get zs c.args.goal) (sym c.as_slice.ensures) ∙ sym c.at.ensures ∙ ap option_copied c.in-Some.is in
    without_goal p c.args.goal c.none-in-Axiom.result.opened c.none-in-Axiom.result.next
    (item_axiom p c.args.goal c.in-Axiom.name c.in-Axiom.vars c.in-Axiom.body (at ∙ ap (λ (x : Item). Some x) c.in-Axiom.is)) c.none-in-Axiom.ensures.opened c.none-in-Axiom.ensures.next

pub of_goal-requires : goal.of_goal-requires
of_goal-requires c =
    let p = c.args.problem.now in
    let at : slice_get p.items c.args.goal ≡ Some c.in-Some.item.now = ap (λ (zs : List Item). slice_get zs c.args.goal) (sym c.as_slice.ensures) ∙ sym c.at.ensures ∙ ap option_copied c.in-Some.is in
    item_goal p c.args.goal c.in-Goal.name c.in-Goal.rigid c.in-Goal.body (at ∙ ap (λ (x : Item). Some x) c.in-Goal.is)
