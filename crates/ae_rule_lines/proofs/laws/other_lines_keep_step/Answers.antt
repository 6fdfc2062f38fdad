use Rattle.ae_rule_lines.proofs.OtherLines.{other_lines_keep, names_keep}
use Rattle.ae_rule_lines.proofs.laws.other_lines_keep_step.Goals as goal

pub returns-clause-lines : goal.returns-clause-lines
returns-clause-lines c = other_lines_keep

pub returns-clause-names : goal.returns-clause-names
returns-clause-names c = names_keep
