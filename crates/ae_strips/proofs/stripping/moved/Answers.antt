use Rattle.std.proofs.Common.{subst}
use Rattle.ae_store.proofs.EnterLaws.{front_same}
use Rattle.ae_strips.specs.Stripping.{IsSaidBy}
use Rattle.ae_strips.proofs.Freedom.{said_some}
use Rattle.ae_strips.proofs.FieldMoves.{same_owner}
use Rattle.ae_strips.proofs.stripping.moved.Goals as goal

pub returns-in-None-clause-same : goal.returns-in-None-clause-same
returns-in-None-clause-same c =
    same_owner c.args.store.now.nodes c.args.name c.args.field c.requires.field c.args.owner.name (subst (IsSaidBy c.args.justs.now c.args.field.owner c.args.owner.name) c.in-None.is c.requires.owner)

pub returns-in-None-clause-front : goal.returns-in-None-clause-front
returns-in-None-clause-front c = front_same c.args.justs.now

pub moved_by-requires-clause-equal : goal.moved_by-requires-clause-equal
moved_by-requires-clause-equal c = said_some c.args.justs.now c.args.field.owner c.args.owner.name c.in-Some.step c.args.owner.step c.in-Some.is c.requires.owner
