use Rattle.ae_demo_texts.proofs.Whole.{has_problem}
use Rattle.ae_demo_texts.proofs.laws.demo_texts_have_problems.Goals as goal

pub returns : goal.returns
returns c = has_problem
