use Rattle.ae_numerals_kept.proofs.Lowest.{hypothesis_lowest, goal_lowest}
use Rattle.ae_numerals_kept.proofs.laws.problems_keep_numerals.Goals as goal

pub returns-clause-hypotheses : goal.returns-clause-hypotheses
returns-clause-hypotheses c = hypothesis_lowest

pub returns-clause-goals : goal.returns-clause-goals
returns-clause-goals c = goal_lowest
