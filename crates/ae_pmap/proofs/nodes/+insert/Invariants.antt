use Rattle.ae_pmap.proofs.nodes.+insert.Given as goal

abbrev pub decreases-insert : goal.decreases-insert
decreases-insert l = l.place
