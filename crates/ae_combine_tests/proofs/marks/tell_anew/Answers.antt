use Rattle.std.proofs.Common.{sym}
use Rattle.ae_combine_tests.proofs.marks.tell_anew.Goals as goal

pub tell_compared-requires-clause-fits : goal.tell_compared-requires-clause-fits
tell_compared-requires-clause-fits c = c.in_ok-anew.ensures.fits c.args.store.now (sym c.requires)
