use Rattle.ae_cli.proofs.RightWords.{right_words}
use Rattle.ae_cli.proofs.laws.right_words_state.Goals as goal

pub returns : goal.returns
returns c = right_words
