use Rattle.std.proofs.Common.{drop}
use Rattle.ae_readers.proofs.Exactness.{same_read}
use Rattle.ae_statereader.proofs.NumberedReading.{exact_by}
use Rattle.ae_statereader.proofs.lines.read_exactly.Goals as goal

pub returns-clause-read : goal.returns-clause-read
returns-clause-read c = same_read c.args.text.now _ _ _ (exact_by c.args.number _ (drop c.args.at c.args.text.now) c.only.ensures) c.read_within.ensures.read
