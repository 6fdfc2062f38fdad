use Rattle.std.proofs.Common.{drop}
use Rattle.ae_readers.proofs.Exactness.{same_read}
use Rattle.ae_linereader.proofs.RuleReading.{ending_is}
use Rattle.ae_linereader.proofs.rules.read_ending.Goals as goal

pub returns-clause-read : goal.returns-clause-read
returns-clause-read c = same_read c.args.text.now _ _ _ (ending_is (drop c.args.at c.args.text.now)) c.read_worded_ending.ensures.read
