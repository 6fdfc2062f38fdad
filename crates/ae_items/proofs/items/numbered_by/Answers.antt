use Rattle.std.proofs.Common.{◌≡◌, ◌∙◌, ℕ, List, length, ap}
use Rattle.std.proofs.lemmas.Result.{IfOk-at_ok}
use Rattle.ae_core.specs.declared.formulas.Formula.{Formula}
use Rattle.ae_elab.specs.Numbering.{numbered}
use Rattle.ae_elab.specs.Problems.{item_as}
use Rattle.ae_items.proofs.items.numbered_by.Goals as goal

pub returns : goal.returns
returns c =
    let made = c.in_ok-name in
    let g = c.args.is_goal in
    let vs = c.args.variables.now in
    let name = c.args.name.now in
    let f = numbered g vs c.args.formula.now in
    let a : made.name ≡ name = IfOk-at_ok (λ (w : List ℕ). w ≡ name) made.ensures.0 c.word_of.ensures in
    let b : made.body ≡ f = IfOk-at_ok (λ (z : Formula). z ≡ f) made.ensures.1 c.numbered-body.ensures in
    c.named.ensures
    ∙ ap (λ (w : List ℕ). item_as g w c.len.result made.body) a
    ∙ ap (λ (n : ℕ). item_as g name n made.body) c.len.ensures
    ∙ ap (λ (z : Formula). item_as g name (length vs) z) b
