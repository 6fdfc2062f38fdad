use Rattle.ae_sat_tests.proofs.tests.search_by.Goals as goal

pub search-requires-clause-fits : goal.search-requires-clause-fits
search-requires-clause-fits g c = c.new.ensures.fits c.args.store.now
