use Rattle.ae_equations.proofs.equations.Equations.release_stale.Given as goal

abbrev pub ghosts-release_counted : goal.ghosts-release_counted
ghosts-release_counted a = record { name = a.blank.name; parts = a.blank.parts }
