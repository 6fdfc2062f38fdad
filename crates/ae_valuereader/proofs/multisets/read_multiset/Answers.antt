use Rattle.std.proofs.Common.{drop}
use Rattle.ae_codes.specs.Rising.{rising}
use Rattle.ae_readers.proofs.Exactness.{exactly_by, same_read}
use Rattle.ae_valuereader.proofs.MultisetReading.{multiset_is}
use Rattle.ae_valuereader.proofs.multisets.read_multiset.Goals as goal

pub returns-clause-read : goal.returns-clause-read
returns-clause-read c = same_read c.args.text.now _ _ _ (multiset_is (drop c.args.at c.args.text.now)) c.read_by_byte.ensures.read

pub returns-clause-exact : goal.returns-clause-exact
returns-clause-exact c = exactly_by (rising (λ n. n)) _ multiset_is c.args.text.now c.args.at _ c.read_by_byte.ensures.read
