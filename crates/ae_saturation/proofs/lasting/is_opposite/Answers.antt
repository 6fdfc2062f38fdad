use Rattle.ae_saturation.proofs.Looking.{opposite_true, opposite_false}
use Rattle.ae_saturation.proofs.lasting.is_opposite.Goals as goal

pub returns-then-other : goal.returns-then-other
returns-then-other c = opposite_true c.args.sign c.args.other c.if-other.true

pub returns-else-other : goal.returns-else-other
returns-else-other c = opposite_false c.args.sign c.args.other c.if-other.false
