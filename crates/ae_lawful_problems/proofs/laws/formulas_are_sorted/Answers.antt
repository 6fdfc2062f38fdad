use Rattle.ae_lawful_problems.proofs.SortedProblems.{items_sorted}
use Rattle.ae_lawful_problems.proofs.laws.formulas_are_sorted.Goals as goal

pub returns : goal.returns
returns c = items_sorted
