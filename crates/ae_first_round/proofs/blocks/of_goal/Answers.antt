use Rattle.std.proofs.Common.{[], ◌∷◌, ◌≡◌, sym, ◌∙◌}
use Rattle.ae_base.proofs.Results.{if_ok_both}
use Rattle.ae_block_constants.specs.Blocks.{variables}
use Rattle.ae_first_round.specs.Inner.First.{AreFirstBlocks}
use Rattle.ae_first_round.proofs.Opened.{one_opened, other_goal}
use Rattle.ae_first_round.proofs.blocks.of_goal.Goals as goal

pub returns-then-is_block : goal.returns-then-is_block
returns-then-is_block c =
    let p = c.args.problem.now in
    let f = c.args.body.now in
    if_ok_both c.one.result (λ b. b.opened ≡ record { formula = f; first = 0 } ∷ []) (λ b. b.next ≡ variables f) (λ b. AreFirstBlocks p c.args.goal b.opened b.next)
    (λ b x y. one_opened p c.args.goal b.opened b.next f c.requires (sym c.is_block.ensures ∙ c.if-is_block.true) x y) c.one.ensures.opened c.one.ensures.next

pub returns-else-is_block : goal.returns-else-is_block
returns-else-is_block c =
    other_goal c.args.problem.now c.args.goal c.none.result.opened c.none.result.next c.args.body.now c.requires (sym c.is_block.ensures ∙ c.if-is_block.false) c.none.ensures.opened c.none.ensures.next
