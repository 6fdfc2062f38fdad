use Rattle.ae_combine_tests.proofs.marks.tell_refused.Given as goal

abbrev pub ghosts-tell_few : goal.ghosts-tell_few
ghosts-tell_few a = record { name = a.blank.name; parts = a.blank.parts }
