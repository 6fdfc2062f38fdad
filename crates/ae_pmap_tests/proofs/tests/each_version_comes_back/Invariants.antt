use Rattle.ae_pmap_tests.proofs.tests.each_version_comes_back.Given as goal

abbrev pub ghosts-go_back : goal.ghosts-go_back
ghosts-go_back g a = record { name = a.blank.name; parts = a.blank.parts }
