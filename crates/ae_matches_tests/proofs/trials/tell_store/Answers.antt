use Rattle.ae_matches_tests.proofs.trials.tell_store.Goals as goal

pub tell_rules-requires-clause-fits : goal.tell_rules-requires-clause-fits
tell_rules-requires-clause-fits c = c.new-theory.ensures.fits c.args.store.now

pub assume_facts-requires : goal.assume_facts-requires
assume_facts-requires c = record { fits = c.new-theory.ensures.fits c.args.store.now }
