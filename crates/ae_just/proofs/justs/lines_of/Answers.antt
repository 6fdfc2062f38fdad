use Rattle.std.proofs.Common.{arith, refl, ◌<◌, length}
use Rattle.ae_store.specs.Shapes.{shapes}
use Rattle.ae_store.specs.Terms.{terms}
use Rattle.ae_just.proofs.NeededLaws.{within_at}
use Rattle.ae_just.proofs.EmitLaws.{count_few, emitted_turn}
use Rattle.ae_just.proofs.justs.lines_of.Goals as goal

pub next_hyp-count-requires : goal.next_hyp-count-requires
next_hyp-count-requires c =
    let l : c.loop-number.number-index < length c.args.needed.now = c.loop-number-test.true in
    let h = count_few c.args.store.now.signature (terms (shapes c.args.store.now.nodes)) c.args.steps.now c.args.id c.args.needed.now c.requires.fits c.requires.needed c.loop-number.number-index
    c.loop-number.count c.loop-number.lines (omega (arith, l))
    c.loop-number.invariant in
    omega (arith, l, h)

pub loop-number-preserved : goal.loop-number-preserved
loop-number-preserved c =
    emitted_turn c.args.store.now.signature (terms (shapes c.args.store.now.nodes)) c.args.steps.now c.args.id c.args.needed.now c.requires.fits c.requires.needed c.loop-number.number-index
    c.loop-number.count c.next_hyp-count.result _ c.loop-number.lines
    c.push.new.self c.index-steps-number.result c.in_ok-next.next c.args.needed.now c.loop-number-test.true c.loop-number.invariant c.index-steps-number.is
    (within_at c.args.needed.now (length c.args.steps.now) c.loop-number.number-index _ c.requires.within c.loop-number-test.true) refl c.in_ok-next.ensures c.in_ok-push.ensures.ok c.next_hyp-count.ensures
