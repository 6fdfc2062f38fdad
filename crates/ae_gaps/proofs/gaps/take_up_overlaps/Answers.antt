use Rattle.ae_sweeps.proofs.Bridges.{from_none}
use Rattle.ae_turns.proofs.Steps.{staying_leads}
use Rattle.ae_gaps.proofs.gaps.take_up_overlaps.Goals as goal

pub returns-in_err-two-clause-leads : goal.returns-in_err-two-clause-leads
returns-in_err-two-clause-leads c = staying_leads c.args.store.now c.args.held.now c.args.journal.now (c.requires.taken).fits

pub couple-requires-clause-before : goal.couple-requires-clause-before
couple-requires-clause-before c = (rw c.in-Some.is at c.in_ok-two.ensures.some).0

pub couple-requires-clause-unpaired : goal.couple-requires-clause-unpaired
couple-requires-clause-unpaired c = (rw c.in-Some.is at c.in_ok-two.ensures.some).1

pub retake_all-requires-clause-paired : goal.retake_all-requires-clause-paired
retake_all-requires-clause-paired c = from_none c.in_ok-two.field-0 c.in_default.not-Some c.in_ok-two.ensures.none
