use Rattle.ae_monoid.proofs.rules.Rules.release.Given as goal

abbrev pub ghosts-release_counted : goal.ghosts-release_counted
ghosts-release_counted a = record { name = a.blank.name; parts = a.blank.parts }
