use Rattle.std.proofs.Common.{ap, drop}
use Rattle.ae_readers.proofs.Exactness.{same_read}
use Rattle.ae_readers.specs.Readers.{closes, named_read}
use Rattle.ae_readers.specs.declared.closing.Closing.TheVariants as closing
use Rattle.ae_formulareader.proofs.WordForms.{word_form}
use Rattle.ae_formulareader.proofs.words.read_opening.Goals as goal

pub returns-clause-read : goal.returns-clause-read
returns-clause-read c = same_read c.args.text.now _ _ _ (ap (λ f. named_read f (closes closing.Blank) c.args.names.now.words (drop c.args.at c.args.text.now)) word_form) c.read_named.ensures.read
