use Rattle.std.specs.Prelude.{◌+◌}
use Rattle.std.proofs.Common.{subst, sym}
use Rattle.ae_sure_literals.proofs.Using.{places_next, places_none}
use Rattle.ae_sure_literals.specs.Inner.Closing.{UsesPlaces}
use Rattle.ae_sure_literals.proofs.closing.use_places.Goals as goal

pub loop-place-init : goal.loop-place-init
loop-place-init c = places_none c.args.trail.now.assigned c.args.flags.now

pub loop-place-preserved : goal.loop-place-preserved
loop-place-preserved c =
    let t = c.args.trail.now.assigned in
    subst (UsesPlaces t (c.loop-place.place + 1) c.args.flags.now c.use_place.new.flags) (sym c.one_of-changed.ensures)
    (places_next t c.loop-place.place c.args.flags.now c.loop-place.flags c.use_place.new.flags c.loop-place.changed c.in_ok-more.more c.loop-place.invariant c.in_ok-more.ensures)
