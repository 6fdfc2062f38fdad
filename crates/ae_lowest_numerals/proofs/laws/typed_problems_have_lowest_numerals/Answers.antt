use Rattle.ae_lowest_numerals.proofs.LowestProblems.{problem_lowest}
use Rattle.ae_lowest_numerals.proofs.laws.typed_problems_have_lowest_numerals.Goals as goal

pub returns : goal.returns
returns c = problem_lowest
