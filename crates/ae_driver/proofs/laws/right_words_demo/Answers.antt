use Rattle.ae_cli.proofs.RightWords.{right_words}
use Rattle.ae_driver.proofs.laws.right_words_demo.Goals as goal

pub returns : goal.returns
returns c = λ words o n right demo. record { options = o; stated = right_words words o right; is = demo }
