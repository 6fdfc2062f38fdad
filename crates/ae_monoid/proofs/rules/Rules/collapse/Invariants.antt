use Rattle.ae_monoid.proofs.rules.Rules.collapse.Given as goal

abbrev pub ghosts-collapse_counted : goal.ghosts-collapse_counted
ghosts-collapse_counted a = record { name = a.blank.name; parts = a.blank.parts }
