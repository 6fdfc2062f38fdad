use Rattle.std.proofs.Common.{◌+◌, ◌∙◌, sym, subst}
use Rattle.ae_trim.proofs.Marking.{ArePlaces, places_marked, places_unmarked}
use Rattle.ae_trim.proofs.used.marked_places.Goals as goal
use Rattle.ae_trim.proofs.used.marked_places.Goals.{then-marks-place+in_ok-push, else-marks-place}

pub loop-place-preserved : goal.loop-place-preserved
loop-place-preserved c =
    let ms = c.args.marks.now in let n = c.loop-place.place in let ks = c.loop-place.places in
    elim c.if-marks-place.branch [
      | then-marks-place+in_ok-push w ↦
          subst (ArePlaces ms (n + 1)) (sym (w.places-is ∙ w.in_ok-push.ensures.ok)) (places_marked ms n ks w.if-marks-place.true c.loop-place.invariant)
      | else-marks-place w ↦ subst (ArePlaces ms (n + 1)) (sym w.places-is) (places_unmarked ms n ks w.if-marks-place.false c.loop-place.invariant)
    ]
