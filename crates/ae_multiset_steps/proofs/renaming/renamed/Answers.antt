use Rattle.std.specs.Prelude.{◌+◌, ◌<◌, length, take}
use Rattle.std.proofs.Common.{◌∙◌, arith}
use Rattle.ae_store.specs.Shapes.{shapes}
use Rattle.ae_store.specs.Terms.{terms}
use Rattle.ae_multiset_steps.proofs.Lists.{name_at, names_taken, names_same}
use Rattle.ae_multiset_steps.proofs.Places.{equated_at, one_more_taken, renaming_one, renaming_more, renaming_longer}
use Rattle.ae_multiset_steps.proofs.renaming.renamed.Goals as goal

pub single-requires-clause-names : goal.single-requires-clause-names
single-requires-clause-names c =
    let m = c.requires.equal.as_many in
    let l = c.requires.some in
    name_at c.args.store.now.signature (terms (shapes c.args.store.now.nodes)) c.args.symbol.now c.args.from.now c.args.to.now 0 0 c.requires.names (omega (arith, m, l))

pub single-requires-clause-states : goal.single-requires-clause-states
single-requires-clause-states c =
    equated_at c.args.store.now.signature (terms (shapes c.args.store.now.nodes)) c.args.justs.now c.args.symbol.now c.args.from.now c.args.to.now c.args.steps.now c.requires.equal 0 0 c.requires.some

pub loop-i-init : goal.loop-i-init
loop-i-init c =
    renaming_one c.args.store.now.signature (terms (shapes c.args.store.now.nodes)) c.args.justs.now c.args.symbol.now c.args.from.now c.args.to.now c.args.steps.now c.requires.equal c.single.new.justs c.in_ok-at.at 0
    c.in_ok-longer.longer c.in_ok-others.others c.requires.some c.in_ok-longer.ensures c.in_ok-others.ensures c.single.ensures.kept c.single.ensures.fits c.in_ok-at.ensures.rests c.in_ok-at.ensures.states

pub lengthened-requires-clause-sorted : goal.lengthened-requires-clause-sorted
lengthened-requires-clause-sorted c =
    let from = c.args.from.now in
    let to = c.args.to.now in
    let k = c.loop-i.i in
    let i = c.loop-i.invariant in
    let m = c.requires.equal.as_many in
    let l : k < length from = c.loop-i-test.true in
    let more = c.as_slice.result.now in
    let others = c.as_slice-in-loop-i.result.now in
    names_same c.args.store.now.signature (terms (shapes c.args.store.now.nodes)) c.args.symbol.now more others (take (k + 1) from) (take (k + 1) to)
    (one_more_taken from k 0 c.loop-i.longer more l i.longer_is (c.as_slice.ensures ∙ c.in_ok-push.ensures.ok))
    (one_more_taken to k 0 c.loop-i.others others (omega (arith, l, m)) i.others_is (c.as_slice-in-loop-i.ensures ∙ c.in_ok-push-2.ensures.ok))
    (names_taken c.args.store.now.signature (terms (shapes c.args.store.now.nodes)) c.args.symbol.now from to (k + 1) c.requires.names)

pub lengthened-requires-clause-longer : goal.lengthened-requires-clause-longer
lengthened-requires-clause-longer c =
    renaming_longer c.args.store.now.signature (terms (shapes c.args.store.now.nodes)) c.args.justs.now c.args.symbol.now c.args.from.now c.args.to.now c.args.steps.now c.requires.equal c.loop-i.justs c.loop-i.at c.loop-i.i 0
    c.loop-i.longer c.loop-i.others c.as_slice.result.now c.as_slice-in-loop-i.result.now c.loop-i.invariant (omega arith) c.loop-i-test.true (c.as_slice.ensures ∙ c.in_ok-push.ensures.ok)
    (c.as_slice-in-loop-i.ensures ∙ c.in_ok-push-2.ensures.ok)

pub loop-i-preserved : goal.loop-i-preserved
loop-i-preserved c =
    renaming_more c.args.store.now.signature (terms (shapes c.args.store.now.nodes)) c.args.justs.now c.args.symbol.now c.args.from.now c.args.to.now c.args.steps.now c.requires.equal c.loop-i.justs c.lengthened.new.justs c.loop-i.at
    c.in_ok-at-2.at c.loop-i.i 0 c.loop-i.longer c.loop-i.others c.as_slice.result.now c.as_slice-in-loop-i.result.now c.push.new.self c.push-in-loop-i.new.self c.loop-i.invariant c.loop-i-test.true c.as_slice.ensures
    c.as_slice-in-loop-i.ensures c.in_ok-push.ensures.ok c.in_ok-push-2.ensures.ok c.lengthened.ensures.kept c.lengthened.ensures.fits c.in_ok-at-2.ensures.rests c.in_ok-at-2.ensures.states
