use Rattle.ae_step_bounds.proofs.Bounds.{at_least_one, at_most_million}
use Rattle.ae_step_bounds.proofs.laws.stated_steps_are_bounded.Goals as goal

pub returns-clause-least : goal.returns-clause-least
returns-clause-least c = at_least_one

pub returns-clause-most : goal.returns-clause-most
returns-clause-most c = at_most_million
