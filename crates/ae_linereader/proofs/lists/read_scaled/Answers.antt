use Rattle.std.proofs.Common.{drop}
use Rattle.ae_readers.proofs.Exactness.{same_read}
use Rattle.ae_linereader.proofs.RuleReading.{scaled_is}
use Rattle.ae_linereader.proofs.lists.read_scaled.Goals as goal

pub returns-clause-read : goal.returns-clause-read
returns-clause-read c = same_read c.args.text.now _ _ _ (scaled_is (drop c.args.at c.args.text.now)) c.read_factor_and_line.ensures.read
