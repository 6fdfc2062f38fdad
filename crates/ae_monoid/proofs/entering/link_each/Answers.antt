use Rattle.std.proofs.Common.{arith, inl, inr}
use Rattle.ae_monoid.proofs.Grown.{grows_then}
use Rattle.ae_monoid.proofs.Entered.{linking_none, linking_skip, linking_above, linking_more, linked_named, linked_only}
use Rattle.ae_monoid.proofs.entering.link_each.Goals.{else-i-gt0-via-then-i-gt0+else-names-i, else-i-gt0-via-else-i-gt0}
use Rattle.ae_monoid.proofs.entering.link_each.Goals as goal

pub loop-i-init : goal.loop-i-init
loop-i-init c = linking_none c.args.heads.now c.args.links.now.items c.args.names.now c.args.number c.requires.linked c.requires.heads

pub loop-i-preserved-then-names-i : goal.loop-i-preserved-then-names-i
loop-i-preserved-then-names-i c =
    linking_skip c.args.heads.now c.loop-i.heads c.args.links.now.items c.loop-i.links.items c.args.names.now c.args.number c.loop-i.i c.loop-i.invariant c.if-i-gt0.true c.if-names-i.true

pub add_link-requires-clause-above : goal.add_link-requires-clause-above
add_link-requires-clause-above c =
    linking_above c.args.heads.now c.loop-i.heads c.args.links.now.items c.loop-i.links.items c.args.names.now c.args.number c.loop-i.i c.loop-i.invariant c.requires.above c.requires.names c.loop-i-test.true
    (elim c.else-i-gt0.branch [ else-i-gt0-via-then-i-gt0+else-names-i w ↦ inr w.if-names-i.false | else-i-gt0-via-else-i-gt0 w ↦ inl (omega (arith, w.if-i-gt0.false)) ])

pub loop-i-preserved : goal.loop-i-preserved
loop-i-preserved c =
    let e = c.in_ok-add_link.ensures in
    linking_more c.args.heads.now c.loop-i.heads c.args.links.now.items c.loop-i.links.items c.args.names.now c.args.number c.loop-i.i c.loop-i.invariant c.add_link.new.heads c.add_link.new.links.items e.linked e.heads e.grows e.named
    e.stays e.only e.lasts

pub returns-in_err-add_link-clause-grows : goal.returns-in_err-add_link-clause-grows
returns-in_err-add_link-clause-grows c = grows_then c.args.links.now.items c.loop-i.links.items c.add_link.new.links.items c.loop-i.invariant.grows c.in_err-add_link.ensures.grows

pub returns-in_err-add_link-clause-lasts : goal.returns-in_err-add_link-clause-lasts
returns-in_err-add_link-clause-lasts c = λ root map s. c.in_err-add_link.ensures.lasts root map (c.loop-i.invariant.lasts root map s)

pub returns-clause-named : goal.returns-clause-named
returns-clause-named c =
    linked_named c.args.heads.now c.loop-i.heads c.args.links.now.items c.loop-i.links.items c.args.names.now c.args.number c.loop-i.i c.loop-i.invariant (omega (arith, c.loop-i-test.false))

pub returns-clause-only : goal.returns-clause-only
returns-clause-only c =
    linked_only c.args.heads.now c.loop-i.heads c.args.links.now.items c.loop-i.links.items c.args.names.now c.args.number c.loop-i.i c.loop-i.invariant (omega (arith, c.loop-i.auto.i-end))
