use Rattle.std.proofs.Common.{get_or}
use Rattle.std.proofs.lemmas.Option.{slice_get-get_or}
use Rattle.ae_literal_rows.proofs.Telling.{of_no_tags, told_here}
use Rattle.ae_literal_rows.proofs.trails.other_rows.Goals as goal

pub loop-place-init : goal.loop-place-init
loop-place-init c = record {
  fitting = c.new-rows.ensures.fits c.args.store.now;
  tagged = of_no_tags c.args.state.now c.new-rows.result c.new-rows.ensures.empty;
}

pub add_unless-requires-clause-fits : goal.add_unless-requires-clause-fits
add_unless-requires-clause-fits c = c.requires.fits

pub add_unless-requires-clause-taken : goal.add_unless-requires-clause-taken
add_unless-requires-clause-taken c = c.requires.taken

pub add_unless-requires-clause-system : goal.add_unless-requires-clause-system
add_unless-requires-clause-system c = c.requires.system

pub add_unless-requires-clause-opaque : goal.add_unless-requires-clause-opaque
add_unless-requires-clause-opaque c = c.requires.opaque

pub add_unless-requires-clause-named : goal.add_unless-requires-clause-named
add_unless-requires-clause-named c =
    let k = c.loop-place.place in
    let a = get_or c.args.trail.now k c.index-trail-place.result in
    (c.requires.told).named k a (slice_get-get_or c.args.trail.now k c.index-trail-place.result c.loop-place-test.true)

pub add_unless-requires-clause-sorted : goal.add_unless-requires-clause-sorted
add_unless-requires-clause-sorted c =
    let k = c.loop-place.place in
    let a = get_or c.args.trail.now k c.index-trail-place.result in
    (c.requires.told).sorted k a (slice_get-get_or c.args.trail.now k c.index-trail-place.result c.loop-place-test.true)

pub add_unless-requires-clause-assumed : goal.add_unless-requires-clause-assumed
add_unless-requires-clause-assumed c =
    let k = c.loop-place.place in
    let a = get_or c.args.trail.now k c.index-trail-place.result in
    told_here c.args.state.now c.args.store.now c.args.trail.now c.requires.told k a (slice_get-get_or c.args.trail.now k c.index-trail-place.result c.loop-place-test.true)

pub add_unless-requires-clause-fit : goal.add_unless-requires-clause-fit
add_unless-requires-clause-fit c = c.loop-place.invariant.fitting

pub loop-place-preserved : goal.loop-place-preserved
loop-place-preserved c = record { fitting = c.add_unless.ensures.fits; tagged = c.add_unless.ensures.of_tags c.loop-place.invariant.tagged }

pub returns-clause-fits : goal.returns-clause-fits
returns-clause-fits c = c.loop-place.invariant.fitting

pub returns-clause-of_tags : goal.returns-clause-of_tags
returns-clause-of_tags c = c.loop-place.invariant.tagged
