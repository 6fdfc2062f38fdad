use Rattle.std.proofs.Common.{ap, drop}
use Rattle.ae_readers.proofs.Exactness.{same_read}
use Rattle.ae_readers.specs.Readers.{closes, named_read}
use Rattle.ae_termreader.proofs.Forms.{lone_is}
use Rattle.ae_termreader.proofs.names.read_lone.Goals as goal

pub returns-clause-read : goal.returns-clause-read
returns-clause-read c = same_read c.args.text.now _ _ _ (ap (λ f. named_read f (closes c.args.closing) c.args.names.now.words (drop c.args.at c.args.text.now)) lone_is) c.read_named.ensures.read
