use Rattle.std.proofs.Common.{drop}
use Rattle.ae_readers.proofs.Exactness.{same_read}
use Rattle.ae_linereader.proofs.LineReading.{derived_is}
use Rattle.ae_linereader.proofs.blocks.read_derived.Goals as goal

pub returns-clause-read : goal.returns-clause-read
returns-clause-read c = same_read c.args.text.now _ _ _ (derived_is c.args.tables.now.signature.now (drop c.args.at c.args.text.now)) c.read_worded_line.ensures.read
