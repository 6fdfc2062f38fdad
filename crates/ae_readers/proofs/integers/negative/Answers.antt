use Rattle.std.proofs.Common.{arith}
use Rattle.ae_readers.proofs.NumberReading.{positive_fits, negative_fits, negative_back}
use Rattle.ae_readers.proofs.integers.negative.Goals as goal

pub overflow_cast-result : goal.overflow_cast-result
overflow_cast-result c = positive_fits c.args.size (omega arith)

pub overflow_sub-result : goal.overflow_sub-result
overflow_sub-result c = negative_fits c.args.size (omega arith)

pub returns : goal.returns
returns c = negative_back c.args.size (omega arith)
