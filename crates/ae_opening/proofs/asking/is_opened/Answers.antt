use Rattle.std.proofs.Common.{refl, sym}
use Rattle.ae_opening.proofs.asking.is_opened.Goals as goal

pub returns-then-same_formula : goal.returns-then-same_formula
returns-then-same_formula c = ((λ t. (c.block-item.result, (c.loop-block.block-index, c.loop-block-test.true, sym c.block-item.is), c.if-same_formula.ensures.0 t)), (λ o. refl))
