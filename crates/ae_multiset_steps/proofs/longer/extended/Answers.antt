use Rattle.std.specs.Prelude.{◌+◌, ◌++◌, take}
use Rattle.std.proofs.Common.{◌∙◌}
use Rattle.ae_store.specs.Shapes.{shapes}
use Rattle.ae_store.specs.Terms.{terms}
use Rattle.ae_multiset_steps.proofs.Lists.{sorted_at, names_extended, names_same}
use Rattle.ae_multiset_steps.proofs.Extending.{extending_more, extending_longer, one_longer}
use Rattle.ae_multiset_steps.proofs.longer.extended.Goals as goal

pub itself-requires-clause-sorted : goal.itself-requires-clause-sorted
itself-requires-clause-sorted c =
    sorted_at c.args.store.now.signature (terms (shapes c.args.store.now.nodes)) c.args.symbol.now (c.args.left.now ++ c.args.right.now) c.args.rest.now c.loop-name.name-index 0 c.requires.names c.loop-name-test.true

pub lengthened-requires-clause-sorted : goal.lengthened-requires-clause-sorted
lengthened-requires-clause-sorted c =
    let sig = c.args.store.now.signature in
    let ts = terms (shapes c.args.store.now.nodes) in
    let u = c.args.symbol.now in
    let left = c.args.left.now in
    let right = c.args.right.now in
    let rest = c.args.rest.now in
    let k = c.loop-name.name-index in
    let i = c.loop-name.invariant in
    let more = c.as_slice.result.now in
    let others = c.as_slice-in-loop-name.result.now in
    names_same sig ts u more others (left ++ take (k + 1) rest) (right ++ take (k + 1) rest)
    (one_longer sig ts c.args.justs.now u left right rest c.args.step left k 0 c.loop-name.longer more c.loop-name-test.true i.longer_is (c.as_slice.ensures ∙ c.in_ok-push.ensures.ok))
    (one_longer sig ts c.args.justs.now u left right rest c.args.step right k 0 c.loop-name.others others c.loop-name-test.true i.others_is (c.as_slice-in-loop-name.ensures ∙ c.in_ok-push-2.ensures.ok))
    (names_extended sig ts u left right rest (k + 1) c.requires.names)

pub lengthened-requires-clause-longer : goal.lengthened-requires-clause-longer
lengthened-requires-clause-longer c =
    extending_longer c.args.store.now.signature (terms (shapes c.args.store.now.nodes)) c.args.justs.now c.args.symbol.now c.args.left.now c.args.right.now c.args.rest.now c.args.step c.loop-name.justs c.itself.new.justs c.loop-name.at
    c.in_ok-same.same c.loop-name.name-index _ c.loop-name.longer c.loop-name.others c.as_slice.result.now c.as_slice-in-loop-name.result.now c.loop-name.invariant c.requires.left c.requires.right
    (c.as_slice.ensures ∙ c.in_ok-push.ensures.ok) (c.as_slice-in-loop-name.ensures ∙ c.in_ok-push-2.ensures.ok) c.itself.ensures.kept c.in_ok-same.ensures.states

pub loop-name-preserved : goal.loop-name-preserved
loop-name-preserved c =
    extending_more c.args.store.now.signature (terms (shapes c.args.store.now.nodes)) c.args.justs.now c.args.symbol.now c.args.left.now c.args.right.now c.args.rest.now c.args.step c.loop-name.justs c.itself.new.justs
    c.lengthened.new.justs c.loop-name.at c.in_ok-same.same c.in_ok-at.at c.loop-name.name-index 0 c.loop-name.longer c.loop-name.others c.as_slice.result.now c.as_slice-in-loop-name.result.now c.push.new.self
    c.push-in-loop-name.new.self c.loop-name.invariant c.loop-name-test.true c.as_slice.ensures c.as_slice-in-loop-name.ensures c.in_ok-push.ensures.ok c.in_ok-push-2.ensures.ok c.itself.ensures.kept c.itself.ensures.fits
    c.in_ok-same.ensures.rests c.lengthened.ensures.kept c.lengthened.ensures.fits c.in_ok-at.ensures.rests c.in_ok-at.ensures.states
