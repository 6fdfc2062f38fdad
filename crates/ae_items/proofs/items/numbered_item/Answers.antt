use Rattle.std.proofs.Common.{◌≡◌, List, length, IfOk, subst}
use Rattle.ae_core.specs.declared.terms.Sort.{Sort}
use Rattle.ae_elab.specs.Numbering.{numbered}
use Rattle.ae_elab.specs.Problems.{item_as}
use Rattle.ae_items.proofs.items.numbered_item.Goals as goal

pub returns : goal.returns
returns c =
    let g = c.args.is_goal in
    subst (λ (vs : List Sort). IfOk c.numbered_by.result (λ i. i ≡ item_as g c.args.name.now (length vs) (numbered g vs c.args.formula.now)))
    c.in_ok-variables.ensures c.numbered_by.ensures
