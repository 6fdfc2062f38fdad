use Rattle.std.proofs.Common.{sym}
use Rattle.ae_combine_tests.proofs.marks.tell_marked.Goals as goal

pub tell_thousand-requires-clause-fits : goal.tell_thousand-requires-clause-fits
tell_thousand-requires-clause-fits c = c.in_ok-state.ensures.fits c.args.store.now (sym c.requires)
