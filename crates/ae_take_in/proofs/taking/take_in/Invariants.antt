use Rattle.ae_take_in.proofs.taking.take_in.Given as goal

abbrev pub ghosts-take_counted : goal.ghosts-take_counted
ghosts-take_counted a = record { name = a.blank.name; parts = a.blank.parts }
