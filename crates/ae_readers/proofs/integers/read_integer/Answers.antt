use Rattle.ae_readers.specs.Readers.{integer_at, close_of}
use Rattle.ae_readers.proofs.Exactness.{same_read, exactly_by}
use Rattle.ae_readers.proofs.NumberReading.{integer_is_read}
use Rattle.ae_readers.proofs.integers.read_integer.Goals as goal

pub returns-clause-read : goal.returns-clause-read
returns-clause-read c = same_read c.args.text.now _ _ _ (integer_is_read _ _) c.read_signed.ensures.read

pub returns-clause-exact : goal.returns-clause-exact
returns-clause-exact c = exactly_by (integer_at (close_of c.args.closing)) _ (integer_is_read (close_of c.args.closing)) c.args.text.now c.args.at _ c.read_signed.ensures.read
