use Rattle.std.proofs.Common.{arith}
use Rattle.ae_readers.proofs.LowestTerms.{lowest_by_gcd}
use Rattle.ae_readers.proofs.denominators.is_lowest.Goals as goal

pub returns : goal.returns
returns c = lowest_by_gcd c.args.top c.args.bottom c.gcd.result c.gcd.ensures (omega arith) (omega arith)
