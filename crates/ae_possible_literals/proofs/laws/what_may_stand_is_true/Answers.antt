use Rattle.ae_possible_literals.proofs.MayStands.{inequalities, undenied_ones}
use Rattle.ae_possible_literals.proofs.laws.what_may_stand_is_true.Goals as goal

pub returns-clause-inequalities : goal.returns-clause-inequalities
returns-clause-inequalities c = inequalities

pub returns-clause-consistent : goal.returns-clause-consistent
returns-clause-consistent c = undenied_ones
