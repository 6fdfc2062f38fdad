use Rattle.ae_codes.specs.Closers.{sizes}
use Rattle.ae_codes.specs.Numbers.{number}
use Rattle.ae_readers.specs.Readers.{close_of}
use Rattle.ae_readers.proofs.Exactness.{same_read, exactly_by}
use Rattle.ae_readers.proofs.NumberReading.{size_is_read}
use Rattle.ae_readers.proofs.numbers.read_size.Goals as goal

pub returns-clause-read : goal.returns-clause-read
returns-clause-read c = same_read c.args.text.now _ _ _ (size_is_read _ _) c.read_narrow.ensures.read

pub returns-clause-exact : goal.returns-clause-exact
returns-clause-exact c = exactly_by (number (sizes (close_of c.args.closing))) _ (size_is_read (close_of c.args.closing)) c.args.text.now c.args.at _ c.read_narrow.ensures.read
