use Rattle.std.proofs.Common.{sym}
use Rattle.ae_searching.proofs.levels.has_true_by.Goals as goal

pub returns-then-is_true_by : goal.returns-then-is_true_by
returns-then-is_true_by c = (c.index-clause-i.result, (c.loop-i.i, c.loop-i-test.true, sym c.index-clause-i.is), c.if-is_true_by.ensures)
