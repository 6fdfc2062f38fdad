use Rattle.ae_rule_lines.proofs.NewSides.{new_sides_keep, forgetting_keeps, name_equations_keep}
use Rattle.ae_rule_lines.proofs.laws.equations_keep_step.Goals as goal

pub returns-clause-sides : goal.returns-clause-sides
returns-clause-sides c = new_sides_keep

pub returns-clause-fewer : goal.returns-clause-fewer
returns-clause-fewer c = forgetting_keeps

pub returns-clause-names : goal.returns-clause-names
returns-clause-names c = name_equations_keep
