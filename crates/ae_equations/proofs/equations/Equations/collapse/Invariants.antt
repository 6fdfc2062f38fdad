use Rattle.ae_equations.proofs.equations.Equations.collapse.Given as goal

abbrev pub ghosts-collapse_counted : goal.ghosts-collapse_counted
ghosts-collapse_counted a = record { name = a.blank.name; parts = a.blank.parts }
