use Rattle.std.proofs.Common.{drop}
use Rattle.ae_readers.proofs.Exactness.{same_read}
use Rattle.ae_formulareader.proofs.FormulaReading.{trigger_is}
use Rattle.ae_formulareader.proofs.triggers.read_trigger.Goals as goal

pub returns-clause-read : goal.returns-clause-read
returns-clause-read c = same_read c.args.text.now _ _ _ (trigger_is c.args.tables.now.signature.now c.args.env.now (drop c.args.at c.args.text.now)) c.read_listed.ensures.read
