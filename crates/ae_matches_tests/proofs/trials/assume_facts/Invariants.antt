use Rattle.ae_matches_tests.proofs.trials.assume_facts.Given as goal

abbrev pub invariant-loop-item : goal.invariant-loop-item
invariant-loop-item g l = g.T.Equalities.fits l.theory l.store
