use Rattle.ae_pmap.proofs.nodes.+take_first.Given as goal

abbrev pub decreases-take_first : goal.decreases-take_first
decreases-take_first l = l.place
