use Rattle.std.proofs.Common.{sym}
use Rattle.ae_propagation.proofs.settle.true_one.Goals as goal

pub returns-then-is_true : goal.returns-then-is_true
returns-then-is_true c = (c.index-clause-i.result, (c.loop-i.i, c.loop-i-test.true, sym c.index-clause-i.is), c.if-is_true.ensures)
