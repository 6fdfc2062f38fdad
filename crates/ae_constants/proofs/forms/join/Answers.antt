use Rattle.std.proofs.Common.{◌≡◌, ◌≤◌, ◌∙◌, ap, length, arith}
use Rattle.std.proofs.lemmas.Option.{slice_get_within, get_or_from_slice_get}
use Rattle.std.proofs.lemmas.Result.{on_ok_weaker}
use Rattle.ae_math.specs.Fractions.{◌+ℚ◌}
use Rattle.ae_naturals.specs.Fractions.{value_of}
use Rattle.ae_constants.specs.Forms.{multiple, multiples}
use Rattle.ae_constants.proofs.EnterLaws.{got, joined_there}
use Rattle.ae_constants.proofs.forms.join.Goals as goal

pub returns : goal.returns
returns c =
    let ms = c.args.parts.now.items in
    let m = c.requires.0 in
    let within : c.args.place ≤ length (multiples ms) = omega (arith, slice_get_within (multiples ms) c.args.place (multiple m) (got ms c.args.place m c.requires.1)) in
    let same : c.remove-there.result ≡ m = c.remove-there.ensures.value ∙ get_or_from_slice_get ms c.args.place m c.remove-there.result c.requires.1 in
    let joint : value_of c.in_ok-joint.joint ≡ value_of c.args.factor.now +ℚ value_of m.factor = c.in_ok-joint.ensures ∙ ap (λ w. value_of c.args.factor.now +ℚ value_of w.factor) same in
    on_ok_weaker c.put.result
    (λ e. e ∙ joined_there c.args.name (value_of c.args.factor.now) (value_of c.in_ok-joint.joint) ms c.remove-there.new.self.items c.args.place m c.requires.1 c.requires.2 within c.remove-there.ensures.items joint)
    c.put.ensures
