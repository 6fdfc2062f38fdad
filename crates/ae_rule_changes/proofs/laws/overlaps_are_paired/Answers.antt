use Rattle.ae_rule_changes.proofs.Turned.{noted_paired, deduced_new}
use Rattle.ae_rule_changes.proofs.laws.overlaps_are_paired.Goals as goal

pub returns-clause-numbers : goal.returns-clause-numbers
returns-clause-numbers c = noted_paired

pub returns-clause-sides : goal.returns-clause-sides
returns-clause-sides c = deduced_new
