use Rattle.ae_sweeps.specs.Given.{rep_in}
use Rattle.ae_turns.specs.declared.found.Found.{Found}
use Rattle.ae_turns.proofs.Budgets.{within_never}
use Rattle.ae_gaps.proofs.NothingOpen.{no_unflat, no_pair}
use Rattle.ae_gaps.proofs.gaps.take_up_opening.Goals as goal

pub take_up_congruent-requires-clause-unequal : goal.take_up_congruent-requires-clause-unequal
take_up_congruent-requires-clause-unequal c = rw c.in-Unequal.is at c.requires.open

pub take_up_unflat-requires-clause-unflat : goal.take_up_unflat-requires-clause-unflat
take_up_unflat-requires-clause-unflat c = rw c.in-Unflat.is at c.requires.open

pub take_up_pair-requires-clause-open : goal.take_up_pair-requires-clause-open
take_up_pair-requires-clause-open c = rw c.in-Pair.is at c.requires.open

-- ---- how many lines may be noted
pub returns-in-Unflat-clause-budget : goal.returns-in-Unflat-clause-budget
returns-in-Unflat-clause-budget c =
    let s = c.args.store.now in
    let o = c.args.held.now in
    let u = rw c.in-Unflat.is at c.requires.open in
    within_never Found s o c.take_up_unflat.new.held c.args.journal.now.lines c.take_up_unflat.new.journal.lines c.take_up_unflat.result
    (λ n h. no_unflat s o n h (c.requires.taken).store (rep_in c.args.reps.now) c.in-Unflat.name u.0 u.1)

pub returns-in-Pair-clause-budget : goal.returns-in-Pair-clause-budget
returns-in-Pair-clause-budget c =
    let s = c.args.store.now in
    let o = c.args.held.now in
    let u = rw c.in-Pair.is at c.requires.open in
    within_never Found s o c.take_up_pair.new.held c.args.journal.now.lines c.take_up_pair.new.journal.lines c.take_up_pair.result
    (λ n h. no_pair s o n h c.in-Pair.first c.in-Pair.second u.0 u.1 u.2)
