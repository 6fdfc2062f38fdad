use Rattle.ae_propagation_tests.proofs.tests.by_lists_uncounted.Given as goal

abbrev pub ghosts-by_lists : goal.ghosts-by_lists
ghosts-by_lists a = record { name = a.blank.name; parts = a.blank.parts }
