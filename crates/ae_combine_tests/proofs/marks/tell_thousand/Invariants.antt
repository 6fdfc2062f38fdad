use Rattle.ae_combine_tests.proofs.marks.tell_thousand.Given as goal

abbrev pub ghosts-mark_and_back : goal.ghosts-mark_and_back
ghosts-mark_and_back a = record { name = a.blank.name; parts = a.blank.parts }
