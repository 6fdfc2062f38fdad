use Rattle.ae_steps.proofs.tests.a_caller_that_counts_nothing_makes_a_counter.Given as goal

abbrev pub ghosts-counted : goal.ghosts-counted
ghosts-counted a = record { name = a.blank.name; parts = a.blank.parts }
