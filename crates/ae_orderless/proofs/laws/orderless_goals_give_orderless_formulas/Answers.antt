use Rattle.ae_orderless.proofs.Hypotheses.{hypothesis_orderless}
use Rattle.ae_orderless.proofs.laws.orderless_goals_give_orderless_formulas.Goals as goal

pub returns-clause-hypotheses : goal.returns-clause-hypotheses
returns-clause-hypotheses c = hypothesis_orderless

pub returns-clause-goals : goal.returns-clause-goals
returns-clause-goals c p g f w = w.goal f
