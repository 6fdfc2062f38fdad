use Rattle.std.proofs.Common.{List, sym, subst}
use Rattle.std.proofs.lemmas.Result.{on_ok_weaker}
use Rattle.ae_journal.specs.States.{of_literal}
use Rattle.ae_owners.proofs.Numbers.{apart_literal, new_there, one_more}
use Rattle.ae_owners.specs.Owners.{AreOwnersApart, HasOwner, IsOwnerIn, MoreOwners}
use Rattle.ae_owners.specs.declared.owners.Owner.{Owner}
use Rattle.ae_owners.proofs.finding.add_literal.Goals as goal

pub returns-in_ok-owner-in-None-clause-more : goal.returns-in_ok-owner-in-None-clause-more
returns-in_ok-owner-in-None-clause-more c =
    on_ok_weaker c.push.result
    (λ e p g s. subst (MoreOwners (IsOwnerIn p g) c.args.owners.now) (sym e) (one_more (IsOwnerIn p g) c.args.owners.now c.in_ok-owner-in-None.owner (c.in_ok-owner-in-None.ensures.right p g s)))
    c.push.ensures.ok

pub returns-in_ok-owner-in-None-clause-apart : goal.returns-in_ok-owner-in-None-clause-apart
returns-in_ok-owner-in-None-clause-apart c =
    on_ok_weaker c.push.result
    (λ e apart. subst AreOwnersApart (sym e)
    (apart_literal c.args.owners.now c.in_ok-owner-in-None.owner (of_literal c.args.lit.now) c.in_ok-owner-in-None.ensures.own
    (subst (λ (z : List Owner). ¬ HasOwner z (of_literal c.args.lit.now)) c.as_slice.ensures c.in-None.ensures) apart))
    c.push.ensures.ok

pub returns-in_ok-owner-in-None-clause-own : goal.returns-in_ok-owner-in-None-clause-own
returns-in_ok-owner-in-None-clause-own c =
    on_ok_weaker c.push.result
    (λ e u. subst (λ (z : List Owner). HasOwner z (of_literal c.args.lit.now)) (sym e) (new_there c.args.owners.now c.in_ok-owner-in-None.owner (of_literal c.args.lit.now) c.in_ok-owner-in-None.ensures.own))
    c.push.ensures.ok
