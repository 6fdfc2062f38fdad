use Rattle.ae_driver.proofs.OneProblem as laws
use Rattle.ae_driver.proofs.laws.one_problem.Goals as goal

pub returns : goal.returns
returns c = record { problem = laws.one_problem; none = laws.has_problem }
