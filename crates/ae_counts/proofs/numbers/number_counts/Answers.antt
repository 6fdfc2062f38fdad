use Rattle.std.proofs.Common.{◌^◌, arith}
use Rattle.std.proofs.lemmas.Bool.{lt-ltb}
use Rattle.ae_counts.proofs.numbers.number_counts.Goals as goal

pub returns : goal.returns
returns c = lt-ltb c.args.number (2 ^ 64) (omega arith)
