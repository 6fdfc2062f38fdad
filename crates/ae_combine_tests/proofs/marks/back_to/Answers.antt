use Rattle.std.specs.Prelude.{[]}
use Rattle.ae_combine_tests.proofs.marks.back_to.Goals as goal

pub answer-requires-clause-fits : goal.answer-requires-clause-fits
answer-requires-clause-fits g c = c.restore.ensures.fits c.args.store.now c.requires.fits

pub answer-requires-clause-step : goal.answer-requires-clause-step
answer-requires-clause-step g c = c.restore.ensures.step c.requires.mark.0 c.requires.mark.1 [] c.requires.mark.2

pub returns-in_err-_ended-clause-marks : goal.returns-in_err-_ended-clause-marks
returns-in_err-_ended-clause-marks g c m then h = c.answer.ensures.marks m then (c.restore.ensures.marks m then h)

pub returns-in_ok-_ended-clause-marks : goal.returns-in_ok-_ended-clause-marks
returns-in_ok-_ended-clause-marks g c m then h = c.answer.ensures.marks m then (c.restore.ensures.marks m then h)

pub returns-else-completes-clause-fits : goal.returns-else-completes-clause-fits
returns-else-completes-clause-fits g c = c.restore.ensures.fits c.args.store.now c.requires.fits

pub returns-else-completes-clause-marks : goal.returns-else-completes-clause-marks
returns-else-completes-clause-marks g c m then h = c.restore.ensures.marks m then h
