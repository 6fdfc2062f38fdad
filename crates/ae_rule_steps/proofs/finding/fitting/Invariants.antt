use Rattle.ae_rule_steps.proofs.finding.fitting.Given as goal

abbrev pub ghosts-fitting_counted : goal.ghosts-fitting_counted
ghosts-fitting_counted a = record { name = a.blank.name; parts = a.blank.parts }
