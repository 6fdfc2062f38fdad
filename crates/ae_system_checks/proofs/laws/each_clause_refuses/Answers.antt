use Rattle.ae_system_checks.proofs.Completed.{crossed_fails, single_left_fails, reducible_fails, apart_fails}
use Rattle.ae_system_checks.proofs.Others.{named_twice_fails, opaque_numeral_fails, other_field_fails, incongruent_fails, without_rule_fails}
use Rattle.ae_system_checks.proofs.laws.each_clause_refuses.Goals as goal

pub returns-clause-terms : goal.returns-clause-terms
returns-clause-terms c = named_twice_fails

pub returns-clause-leaves : goal.returns-clause-leaves
returns-clause-leaves c = crossed_fails

pub returns-clause-computing : goal.returns-clause-computing
returns-clause-computing c = opaque_numeral_fails

pub returns-clause-records : goal.returns-clause-records
returns-clause-records c = other_field_fails

pub returns-clause-congruence : goal.returns-clause-congruence
returns-clause-congruence c = incongruent_fails

pub returns-clause-rules : goal.returns-clause-rules
returns-clause-rules c = single_left_fails

pub returns-clause-reduction : goal.returns-clause-reduction
returns-clause-reduction c = reducible_fails

pub returns-clause-overlaps : goal.returns-clause-overlaps
returns-clause-overlaps c = apart_fails

pub returns-clause-joins : goal.returns-clause-joins
returns-clause-joins c = without_rule_fails
