use Rattle.std.proofs.Common.{◌≡◌, ◌∙◌, ℕ, List, length, IfOk, ap, subst}
use Rattle.ae_core.specs.declared.formulas.Formula.{Formula}
use Rattle.ae_core.specs.declared.problems.Item.{Item}
use Rattle.ae_elab.specs.Numbering.{numbered, sorts_in, variables_among_sorts}
use Rattle.ae_elab.specs.Problems.{item_as}
use Rattle.ae_elab.specs.Scope.{name_in}
use Rattle.ae_items.proofs.items.item.Goals as goal

pub returns : goal.returns
returns c =
    let d = c.args.draft.now in
    let whole = λ (name : List ℕ) (f : Formula). item_as d.is_goal name (length (variables_among_sorts (sorts_in f))) (numbered d.is_goal (variables_among_sorts (sorts_in f)) f) in
    subst (λ (z : Item). IfOk c.numbered_item-item.result (λ i. i ≡ z))
    (ap (λ (name : List ℕ). whole name c.in_ok-formula.formula) c.name_of-name.ensures ∙ ap (whole (name_in c.args.text.now d.name)) c.in_ok-formula.ensures)
    c.numbered_item-item.ensures
