use Rattle.ae_cli.proofs.RightWords.{right_words}
use Rattle.ae_driver.proofs.laws.right_words_ask.Goals as goal

pub returns : goal.returns
returns c = λ words o right prove. record { options = o; stated = right_words words o right; is = prove }
