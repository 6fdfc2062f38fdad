use Rattle.ae_lawful_problems.proofs.LawfulProblems.{problem_lawful}
use Rattle.ae_lawful_problems.proofs.laws.problems_are_lawful.Goals as goal

pub returns : goal.returns
returns c = problem_lawful
