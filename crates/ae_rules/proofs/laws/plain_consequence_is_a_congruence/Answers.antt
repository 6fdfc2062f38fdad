use Rattle.ae_rules.specs.Valuations.{Where}
use Rattle.ae_rules.proofs.Congruence.{plain_is_conseq, plain_sides, plain_reflexive, plain_symmetric, plain_transitive, plain_congruent}
use Rattle.ae_rules.proofs.laws.plain_consequence_is_a_congruence.Goals as goal

pub returns-clause-consequence : goal.returns-clause-consequence
returns-clause-consequence c sig E s t p = let sides = plain_sides sig (Where E) s t p in (plain_is_conseq sig (Where E) s t p, sides.0, sides.1)

pub returns-clause-reflexive : goal.returns-clause-reflexive
returns-clause-reflexive c sig E = plain_reflexive sig (Where E)

pub returns-clause-symmetric : goal.returns-clause-symmetric
returns-clause-symmetric c sig E = plain_symmetric sig (Where E)

pub returns-clause-transitive : goal.returns-clause-transitive
returns-clause-transitive c sig E = plain_transitive sig (Where E)

pub returns-clause-congruent : goal.returns-clause-congruent
returns-clause-congruent c sig E = plain_congruent sig (Where E)
