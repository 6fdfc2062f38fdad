use Rattle.ae_rules.specs.Valuations.{Where}
use Rattle.ae_rules.proofs.Congruence.{conseq_sorted, conseq_given, conseq_reflexive, conseq_symmetric, conseq_transitive, conseq_congruent}
use Rattle.ae_rules.proofs.laws.consequence_is_a_congruence.Goals as goal

pub returns-clause-sorted : goal.returns-clause-sorted
returns-clause-sorted c sig E = conseq_sorted sig (Where E)

pub returns-clause-given : goal.returns-clause-given
returns-clause-given c sig E = conseq_given sig (Where E)

pub returns-clause-reflexive : goal.returns-clause-reflexive
returns-clause-reflexive c sig E = conseq_reflexive sig (Where E)

pub returns-clause-symmetric : goal.returns-clause-symmetric
returns-clause-symmetric c sig E = conseq_symmetric sig (Where E)

pub returns-clause-transitive : goal.returns-clause-transitive
returns-clause-transitive c sig E = conseq_transitive sig (Where E)

pub returns-clause-congruent : goal.returns-clause-congruent
returns-clause-congruent c sig E = conseq_congruent sig (Where E)
