use Rattle.ae_cli.proofs.RightWords.{one_stated, right_words}
use Rattle.ae_cli.proofs.laws.one_answer.Goals as goal

pub returns : goal.returns
returns c = λ words o p a b. one_stated words o p (right_words words o a) (right_words words p b)
