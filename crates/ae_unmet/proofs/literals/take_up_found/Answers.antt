use Rattle.std.proofs.Common.{refl, sym, ◌∙◌}
use Rattle.ae_base.proofs.Tests.{true_false}
use Rattle.ae_unmet.proofs.Growth.{grown_none}
use Rattle.ae_unmet.proofs.OwnConflicts.{yes_there}
use Rattle.ae_unmet.proofs.FoundUnmet.{found_is}
use Rattle.ae_unmet.proofs.SaidPlaces.{sorted_at}
use Rattle.ae_unmet.proofs.TakingUp.{conflict_ends, nothing_ends, refused, taken_up_weaker}
use Rattle.ae_unmet.proofs.literals.take_up_found.Goals as goal

pub returns-in-LeftOut : goal.returns-in-LeftOut
returns-in-LeftOut c =
    taken_up_weaker c.args.store.now c.args.held.now c.args.journal.now c.left_out.new.held c.left_out.new.journal _ _ c.left_out.result (λ none. absurd none) c.left_out.ensures

pub returns-in_err-number-in-Contradicted : goal.returns-in_err-number-in-Contradicted
returns-in_err-number-in-Contradicted c =
    refused c.args.store.now c.args.held.now c.requires.taken c.args.journal.now c.requires.step _
    c.contradicted.new.held c.contradicted.ensures.grown c.from_residual.result c.in_err-number-in-Contradicted.field-0.0 c.from_residual.ensures.1

pub returns-in_err-sorted-in-Opposed : goal.returns-in_err-sorted-in-Opposed
returns-in_err-sorted-in-Opposed c =
    refused c.args.store.now c.args.held.now c.requires.taken c.args.journal.now c.requires.step _ c.args.held.now (grown_none c.args.store.now c.args.held.now c.requires.taken.fits) c.from_residual-in_err-sorted-in-Opposed.result
    c.in_err-sorted-in-Opposed.field-0.0 c.from_residual-in_err-sorted-in-Opposed.ensures.1

pub returns-then-not-sorted : goal.returns-then-not-sorted
returns-then-not-sorted c =
    nothing_ends c.args.store.now c.args.held.now c.requires.taken c.args.journal.now c.requires.step _ c.args.held.now refl
    (λ well. let w = yes_there c.args.store.now c.args.held.now c.requires.taken c.in-Opposed.positive c.in-Opposed.negative (found_is c.args.store.now c.args.held.now c.args.unmet _ c.in-Opposed.is c.requires.found) in
    true_false (sym (sorted_at c.args.held.now (c.requires.taken.fits).right well c.in-Opposed.positive w.below w.entry w.at) ∙ sym (c.in_ok-sorted-in-Opposed.ensures w.entry w.at) ∙ c.if-not-sorted.true))

pub returns-in_err-number-in-Opposed : goal.returns-in_err-number-in-Opposed
returns-in_err-number-in-Opposed c =
    refused c.args.store.now c.args.held.now c.requires.taken c.args.journal.now c.requires.step _
    c.opposed.new.held c.opposed.ensures.grown c.from_residual-in_err-number-in-Opposed.result c.in_err-number-in-Opposed.field-0.0 c.from_residual-in_err-number-in-Opposed.ensures.1

pub returns-in_err-number-in-Mixed : goal.returns-in_err-number-in-Mixed
returns-in_err-number-in-Mixed c =
    refused c.args.store.now c.args.held.now c.requires.taken c.args.journal.now c.requires.step _
    c.mixed.new.held c.mixed.ensures.grown c.from_residual-in_err-number-in-Mixed.result c.in_err-number-in-Mixed.field-0.0 c.from_residual-in_err-number-in-Mixed.ensures.1

pub returns-in_ok-number-in-Contradicted : goal.returns-in_ok-number-in-Contradicted
returns-in_ok-number-in-Contradicted c =
    conflict_ends c.args.store.now c.args.held.now c.requires.taken c.args.journal.now c.requires.step _
    c.contradicted.new.held c.contradicted.ensures.grown c.in_ok-number-in-Contradicted.number c.in_ok-number-in-Contradicted.ensures.own

pub returns-in_ok-number-in-Opposed : goal.returns-in_ok-number-in-Opposed
returns-in_ok-number-in-Opposed c =
    conflict_ends c.args.store.now c.args.held.now c.requires.taken c.args.journal.now c.requires.step _
    c.opposed.new.held c.opposed.ensures.grown c.in_ok-number-in-Opposed.number c.in_ok-number-in-Opposed.ensures.own

pub returns-in_ok-number-in-Mixed : goal.returns-in_ok-number-in-Mixed
returns-in_ok-number-in-Mixed c =
    conflict_ends c.args.store.now c.args.held.now c.requires.taken c.args.journal.now c.requires.step _
    c.mixed.new.held c.mixed.ensures.grown c.in_ok-number-in-Mixed.number c.in_ok-number-in-Mixed.ensures.own

-- what the calls ask: that the unmet thing is of the arm's kind
pub left_out-requires-clause-found : goal.left_out-requires-clause-found
left_out-requires-clause-found c = found_is c.args.store.now c.args.held.now c.args.unmet _ c.in-LeftOut.is c.requires.found

pub contradicted-requires-clause-found : goal.contradicted-requires-clause-found
contradicted-requires-clause-found c = found_is c.args.store.now c.args.held.now c.args.unmet _ c.in-Contradicted.is c.requires.found

pub opposed-requires-clause-found : goal.opposed-requires-clause-found
opposed-requires-clause-found c = found_is c.args.store.now c.args.held.now c.args.unmet _ c.in-Opposed.is c.requires.found

pub opposed-requires-clause-sorted : goal.opposed-requires-clause-sorted
opposed-requires-clause-sorted c a at = sym (c.in_ok-sorted-in-Opposed.ensures a at) ∙ c.if-not-sorted.false

pub mixed-requires-clause-found : goal.mixed-requires-clause-found
mixed-requires-clause-found c = found_is c.args.store.now c.args.held.now c.args.unmet _ c.in-Mixed.is c.requires.found
