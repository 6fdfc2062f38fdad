use Rattle.ae_combine_tests.proofs.marks.tell_few.Goals as goal

pub answer_told-requires-2-clause-fits : goal.answer_told-requires-2-clause-fits
answer_told-requires-2-clause-fits g c = c.restore.ensures.fits c.args.store.now c.answer_told.ensures.fits
