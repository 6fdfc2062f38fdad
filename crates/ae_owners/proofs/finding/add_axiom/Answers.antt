use Rattle.std.proofs.Common.{◌+◌, sym, subst}
use Rattle.std.proofs.lemmas.Result.{on_ok_weaker}
use Rattle.ae_journal.specs.States.{of_axiom}
use Rattle.ae_owners.proofs.Numbers.{apart_axiom, below_pushed, found_owner, new_there}
use Rattle.ae_owners.specs.Inner.Places.{AreAxiomsBelow}
use Rattle.ae_owners.specs.Owners.{AreOwnersApart, HasOwner}
use Rattle.ae_owners.specs.declared.owners.Owner.{Owner}
use Rattle.std.proofs.Common.{List}
use Rattle.ae_owners.proofs.finding.add_axiom.Goals as goal

pub returns-in-Some-clause-apart : goal.returns-in-Some-clause-apart
returns-in-Some-clause-apart c =
    let h = found_owner c.args.problem.now c.args.goal c.args.place c.in_ok-axiom_owner.field-0 c.in-Some.owner c.in-Some.is c.in_ok-axiom_owner.ensures in
    on_ok_weaker c.push.result (λ e apart. subst AreOwnersApart (sym e) (apart_axiom c.args.place c.args.owners.now c.in-Some.owner h.0 c.requires.before apart)) c.push.ensures.ok

pub returns-in-Some-clause-next : goal.returns-in-Some-clause-next
returns-in-Some-clause-next c =
    let h = found_owner c.args.problem.now c.args.goal c.args.place c.in_ok-axiom_owner.field-0 c.in-Some.owner c.in-Some.is c.in_ok-axiom_owner.ensures in
    on_ok_weaker c.push.result (λ e. subst (AreAxiomsBelow (c.args.place + 1)) (sym e) (below_pushed c.args.place c.args.owners.now c.in-Some.owner h.0 c.requires.before)) c.push.ensures.ok

pub returns-in-Some-clause-own : goal.returns-in-Some-clause-own
returns-in-Some-clause-own c =
    let h = found_owner c.args.problem.now c.args.goal c.args.place c.in_ok-axiom_owner.field-0 c.in-Some.owner c.in-Some.is c.in_ok-axiom_owner.ensures in
    on_ok_weaker c.push.result (λ e q x. subst (λ (z : List Owner). HasOwner z (of_axiom c.args.place)) (sym e) (new_there c.args.owners.now c.in-Some.owner (of_axiom c.args.place) h.0)) c.push.ensures.ok
