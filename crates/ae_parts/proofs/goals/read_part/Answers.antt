use Rattle.std.proofs.Common.{drop}
use Rattle.ae_parts.proofs.PartReading.{part_is}
use Rattle.ae_readers.proofs.Exactness.{same_read}
use Rattle.ae_parts.proofs.goals.read_part.Goals as goal

pub returns-clause-read : goal.returns-clause-read
returns-clause-read c = same_read c.args.text.now _ _ _ (part_is c.args.tables.now.terms.signature.now c.args.name.now (drop c.args.at c.args.text.now)) c.read_goal.ensures.read
