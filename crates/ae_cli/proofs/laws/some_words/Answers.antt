use Rattle.ae_cli.proofs.SomeWords.{some_words}
use Rattle.ae_cli.proofs.laws.some_words.Goals as goal

pub returns : goal.returns
returns c = some_words
