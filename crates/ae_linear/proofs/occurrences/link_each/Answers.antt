use Rattle.std.proofs.Common.{arith}
use Rattle.ae_linear.proofs.Links.{taken_none, taken_more, taken_all}
use Rattle.ae_linear.proofs.occurrences.link_each.Goals as goal

pub returns-in_err-link_all-clause-lasts : goal.returns-in_err-link_all-clause-lasts
returns-in_err-link_all-clause-lasts c = λ root map s. c.in_err-link_all.ensures.lasts root map (c.loop-part.invariant.lasts root map s)

pub loop-part-init : goal.loop-part-init
loop-part-init c = taken_none c.args.heads.now c.args.links.now.items c.args.parts.now c.args.rows.now c.requires.linked c.requires.heads

pub loop-part-preserved : goal.loop-part-preserved
loop-part-preserved c =
    let e = c.in_ok-link_all.ensures in
    taken_more c.args.heads.now c.loop-part.heads c.link_all.new.heads c.args.links.now.items c.loop-part.links.items c.link_all.new.links.items c.args.parts.now c.args.rows.now c.loop-part.part-index _
    c.loop-part.invariant c.loop-part-test.true e.linked e.heads e.grows e.stays e.named e.lasts

pub returns-clause-named : goal.returns-clause-named
returns-clause-named c =
    taken_all c.args.heads.now c.loop-part.heads c.args.links.now.items c.loop-part.links.items c.args.parts.now c.args.rows.now c.loop-part.part-index c.loop-part.invariant (omega (arith, c.loop-part-test.false))
