use Rattle.std.specs.Prelude.{Option, IfSome}
use Rattle.std.proofs.Common.{sym, subst}
use Rattle.ae_literals.specs.declared.unmet.Unmet.{Unmet}
use Rattle.ae_unmet.specs.Inner.Ending.{IsWhyNothing}
use Rattle.ae_unmet.specs.Inner.Found.{IsFound}
use Rattle.ae_unmet.proofs.TakingUp.{conflict_ends, nothing_ends, refused, taken_up_weaker}
use Rattle.ae_unmet.proofs.literals.take_up.Goals as goal

pub take_up_found-requires-clause-found : goal.take_up_found-requires-clause-found
take_up_found-requires-clause-found c = subst (λ (u : Option Unmet). IfSome u (IsFound c.args.store.now c.args.held.now)) c.in-Some.is c.requires.found

pub returns-in-Some : goal.returns-in-Some
returns-in-Some c =
    taken_up_weaker c.args.store.now c.args.held.now c.args.journal.now c.take_up_found.new.held c.take_up_found.new.journal _ (IsWhyNothing c.args.held.now c.args.unmet) c.take_up_found.result
    (λ why. subst (IsWhyNothing c.args.held.now) (sym c.in-Some.is) why) c.take_up_found.ensures

pub fraction-requires : goal.fraction-requires
fraction-requires c = record { taken = (c.args.store.now, c.requires.taken) }

pub returns-in_err-conflict-in-None : goal.returns-in_err-conflict-in-None
returns-in_err-conflict-in-None c =
    refused c.args.store.now c.args.held.now c.requires.taken c.args.journal.now c.requires.step _
    c.fraction.new.held (c.fraction.ensures.grown c.args.store.now c.requires.taken) c.from_residual.result c.in_err-conflict-in-None.field-0.0 c.from_residual.ensures.1

pub returns-in-Some-conflict : goal.returns-in-Some-conflict
returns-in-Some-conflict c =
    conflict_ends c.args.store.now c.args.held.now c.requires.taken c.args.journal.now c.requires.step _
    c.fraction.new.held (c.fraction.ensures.grown c.args.store.now c.requires.taken) c.in-Some-conflict.number (rw c.in-Some-conflict.is at c.in_ok-conflict-in-None.ensures.own)

pub returns-in-None-conflict : goal.returns-in-None-conflict
returns-in-None-conflict c =
    let w = rw c.in-None-conflict.is at c.in_ok-conflict-in-None.ensures.none in
    nothing_ends c.args.store.now c.args.held.now c.requires.taken c.args.journal.now c.requires.step _ c.fraction.new.held w.0 (subst (IsWhyNothing c.args.held.now) (sym c.in-None.is) w.1)
