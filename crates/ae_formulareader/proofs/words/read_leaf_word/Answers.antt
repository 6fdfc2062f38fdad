use Rattle.std.proofs.Common.{ap, drop}
use Rattle.ae_readers.proofs.Exactness.{same_read}
use Rattle.ae_readers.specs.Readers.{closes, named_read}
use Rattle.ae_formulareader.proofs.WordForms.{leaf_form}
use Rattle.ae_formulareader.proofs.words.read_leaf_word.Goals as goal

pub returns-clause-read : goal.returns-clause-read
returns-clause-read c = same_read c.args.text.now _ _ _ (ap (λ f. named_read f (closes c.args.closing) c.args.names.now.words (drop c.args.at c.args.text.now)) leaf_form) c.read_named.ensures.read
