use Rattle.ae_sat.proofs.propagator.Propagator.settle.Given as goal

abbrev pub ghosts-settle_behind : goal.ghosts-settle_behind
ghosts-settle_behind a = record { name = a.blank.name; parts = a.blank.parts }
