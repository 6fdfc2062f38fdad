use Rattle.std.proofs.Common.{drop}
use Rattle.ae_parts.proofs.PartReading.{limit_is}
use Rattle.ae_readers.proofs.Exactness.{same_read}
use Rattle.ae_parts.proofs.limits.read_limit.Goals as goal

pub returns-clause-read : goal.returns-clause-read
returns-clause-read c = same_read c.args.text.now _ _ _ (limit_is (drop c.args.at c.args.text.now)) c.read_spanned.ensures.read
