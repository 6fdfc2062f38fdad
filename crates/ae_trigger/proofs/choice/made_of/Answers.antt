use Rattle.std.proofs.Common.{rules, ap, ◌∙◌}
use Rattle.std.specs.Prelude.{IsTrue, take}
use Rattle.ae_journal.specs.Triggers.{smallest}
use Rattle.ae_trigger.proofs.ChoiceLaws.{made_several, made_singles}
use Rattle.ae_trigger.proofs.choice.made_of.Goals as goal

pub returns-then-is_empty : goal.returns-then-is_empty
returns-then-is_empty c =
    let none : IsTrue c.is_empty.result = search rules in
    made_several c.args.wanted.now c.args.candidates.now c.in_ok-covering.covering c.in_ok-smallest.smallest c.in_ok-covering.ensures (c.in_ok-smallest.ensures ∙ ap smallest c.as_slice.ensures)
    c.in_ok-several.several c.in_ok-triggers.triggers (c.is_empty.ensures.0 none) c.in_ok-several.ensures c.in_ok-triggers.ensures

pub returns : goal.returns
returns c =
    let some : IsTrue c.is_empty.result → ⊥ = search rules in
    made_singles c.args.wanted.now c.args.candidates.now c.in_ok-covering.covering c.in_ok-smallest.smallest c.in_ok-covering.ensures (c.in_ok-smallest.ensures ∙ ap smallest c.as_slice.ensures)
    c.first_ten.result.now c.in_ok-triggers-2.triggers (λ e. some (c.is_empty.ensures.1 e)) (c.first_ten.ensures ∙ ap (take 10) c.as_slice-2.ensures) c.in_ok-triggers-2.ensures
