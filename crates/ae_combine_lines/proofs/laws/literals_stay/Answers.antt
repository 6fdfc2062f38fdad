use Rattle.ae_combine_lines.proofs.Values.{values_stay}
use Rattle.ae_combine_lines.proofs.Standing.{may_stay, surely_less}
use Rattle.ae_combine_lines.proofs.laws.literals_stay.Goals as goal

pub returns-clause-values : goal.returns-clause-values
returns-clause-values c = λ x js strict f t. values_stay x js strict f t

pub returns-clause-may : goal.returns-clause-may
returns-clause-may c = λ x js strict f l h. may_stay x js strict f l h

pub returns-clause-surely : goal.returns-clause-surely
returns-clause-surely c = λ x js strict f l h. surely_less x js strict f l h
