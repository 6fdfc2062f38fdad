use Rattle.ae_equations.proofs.equations.Equations.orient_first.Given as goal

abbrev pub ghosts-orient_counted : goal.ghosts-orient_counted
ghosts-orient_counted a = record { name = a.blank.name; parts = a.blank.parts }
