use Rattle.ae_free.proofs.table.Table.enter.Given as goal

abbrev pub ghosts-put : goal.ghosts-put
ghosts-put a = record { name = a.blank.name; parts = a.blank.parts }
