use Rattle.std.proofs.Common.{arith, ℕ, List, [], sym, subst}
use Rattle.ae_declaration_typing.specs.Inner.Additions.{AddsTrees, own_args}
use Rattle.ae_declaration_typing.proofs.AdditionLaws.{adds_none, formals_more, formals_all}
use Rattle.ae_declaration_typing.proofs.defining.formal_nodes.Goals as goal

pub loop-bound-init : goal.loop-bound-init
loop-bound-init c =
    let e = c.args.environment.now in
    subst (λ (ns : List ℕ). AddsTrees e e (own_args []) ns) (sym c.new-places.ensures) (record { adds = adds_none e; stand = tt })

pub loop-bound-preserved : goal.loop-bound-preserved
loop-bound-preserved c =
    formals_more c.args.environment.now c.loop-bound.environment c.push.new.self c.args.bounds.now c.loop-bound.bound-index c.loop-bound.places c.bound-item.result c.in_ok-place.place
    c.loop-bound-test.true c.bound-item.is c.loop-bound.invariant c.in_ok-place.ensures.place c.in_ok-place.ensures.nodes c.push.ensures.locals c.push-in-loop-bound.new.self c.in_ok-push.ensures.ok

pub returns : goal.returns
returns c =
    formals_all c.args.environment.now c.loop-bound.environment c.args.bounds.now c.loop-bound.bound-index c.loop-bound.places (omega (arith, c.loop-bound-test.false)) c.loop-bound.invariant
