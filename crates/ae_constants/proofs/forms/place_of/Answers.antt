use Rattle.std.proofs.Common.{rules, arith, ◌<◌, length}
use Rattle.std.specs.Prelude.{IsTrue}
use Rattle.std.proofs.lemmas.Option.{slice_get_within}
use Rattle.ae_constants.proofs.EnterLaws.{enter_past}
use Rattle.ae_constants.proofs.forms.place_of.Goals as goal

pub places-preserved : goal.places-preserved
places-preserved c =
    let t : IsTrue c.is_earlier.result = search rules in
    let m = c.is_earlier.ensures.yes t in
    let within : c.places.place < length c.args.parts.now = slice_get_within c.args.parts.now c.places.place m.0 m.1 in
    record { within = omega arith; before = λ x. enter_past c.args.name x c.args.parts.now c.places.place m.0 m.1 m.2 (c.places.invariant.before x) }
