use Rattle.std.proofs.Common.{sym}
use Rattle.ae_combine_tests.proofs.marks.tell_refused.Goals as goal

pub tell_few-requires-clause-fits : goal.tell_few-requires-clause-fits
tell_few-requires-clause-fits c = c.in_ok-state.ensures.fits c.args.store.now (sym c.requires)
