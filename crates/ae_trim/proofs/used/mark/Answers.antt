use Rattle.std.proofs.Common.{arith, ◌<◌, length, get_or}
use Rattle.std.proofs.lemmas.List.Elements.{Contains-get_or}
use Rattle.ae_trim.proofs.Marking.{marked_turn}
use Rattle.ae_trim.proofs.used.mark.Goals as goal

pub index_mut-requires : goal.index_mut-requires
index_mut-requires c =
    let ps = c.args.places.now in let i = c.loop-place.place-index in
    let w = c.requires.within (get_or ps i 0) (Contains-get_or ps i 0 c.loop-place-test.true) in
    let s = c.loop-place.invariant.size in
    omega (arith, w, s)

pub loop-place-preserved : goal.loop-place-preserved
loop-place-preserved c =
    let ps = c.args.places.now in let i = c.loop-place.place-index in
    let w = c.requires.within (get_or ps i 0) (Contains-get_or ps i 0 c.loop-place-test.true) in
    let s = c.loop-place.invariant.size in
    let b : get_or ps i 0 < length c.loop-place.marks.items = omega (arith, w, s) in
    marked_turn c.args.marks.now.items c.loop-place.marks.items ps i 0 c.loop-place-test.true b c.loop-place.invariant
