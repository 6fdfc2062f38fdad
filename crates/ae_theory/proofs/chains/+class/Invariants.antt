use Rattle.ae_theory.proofs.chains.+class.Given as goal

abbrev pub decreases-class : goal.decreases-class
decreases-class l = l.place
