use Rattle.std.proofs.Common.{◌≡◌, ◌∙◌, ap, drop, ◌+◌, ◌++◌, get_or}
use Rattle.ae_math.specs.Fractions.{◌*ℚ◌}
use Rattle.ae_naturals.specs.Fractions.{value_of}
use Rattle.ae_computing.specs.Inner.Exact.{multiple, multiples, scaled}
use Rattle.ae_computing.specs.declared.forms.Multiple.{Multiple}
use Rattle.ae_computing.proofs.ExactLaws.{added_step, none_left}
use Rattle.ae_computing.proofs.forms.add_multiples.Goals as goal

pub loop-part-preserved : goal.loop-part-preserved
loop-part-preserved c =
    let x = value_of c.args.by.now in
    let ms = c.args.added.now in
    let i = c.loop-part.part-index in
    let d = c.part-item.result in
    let new : Multiple = record { term = d.term; factor = c.in_ok-factor.factor } in
    let same : multiple new ≡ ((get_or ms i d).term.now, x *ℚ value_of (get_or ms i d).factor) =
    (λ j. (d.term.now, c.in_ok-factor.ensures j)) ∙ (λ j. ((c.part-item.is j).term.now, x *ℚ value_of (c.part-item.is j).factor)) in
    ap (λ ps. multiples ps ++ scaled x (multiples (drop (i + 1) ms))) c.in_ok-push.ensures.items
    ∙ added_step x c.loop-part.parts.items new ms i d c.loop-part-test.true same ∙ c.loop-part.invariant

pub returns : goal.returns
returns c =
    none_left (value_of c.args.by.now) c.loop-part.parts.items c.args.added.now c.loop-part.part-index c.loop-part-test.false ∙ c.loop-part.invariant
