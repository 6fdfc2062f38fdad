use Rattle.std.proofs.Common.{arith}
use Rattle.std.proofs.lemmas.Int.{to_z_pos}
use Rattle.std.specs.Int.{w128}
use Rattle.ae_readers.proofs.NumberReading.{positive_fits}
use Rattle.ae_readers.proofs.integers.positive.Goals as goal

pub overflow_cast-result : goal.overflow_cast-result
overflow_cast-result c = positive_fits c.args.size (omega arith)

pub returns : goal.returns
returns c = to_z_pos w128 c.args.size (omega arith)
