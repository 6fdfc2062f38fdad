use Rattle.std.proofs.Common.{◌≡◌, length, subst, arith}
use Rattle.ae_sweeps.specs.Given.{rep_in}
use Rattle.ae_literals.specs.Inner.Seen.{AreSeen}
use Rattle.ae_literals.proofs.SeenConstructors.{none_mixed}
use Rattle.ae_literals.proofs.constructors.first_mixed.Goals as goal

pub returns-clause-none : goal.returns-clause-none
returns-clause-none c =
    let sig = c.args.store.now.signature in
    let nodes = c.args.store.now.nodes in
    let rep = rep_in c.args.reps.now in
    let e : c.loop-name.name ≡ length nodes = omega (arith, c.loop-name-test.false, c.loop-name.auto.name-end, c.len-name-end.ensures.len) in
    none_mixed sig nodes rep c.loop-name.seen.items (subst (AreSeen sig nodes rep c.loop-name.seen.items) e c.loop-name.invariant)
