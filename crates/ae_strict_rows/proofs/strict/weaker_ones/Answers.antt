use Rattle.std.specs.Prelude.{Bool, List, [], ◌∷◌, length}
use Rattle.std.proofs.Common.{arith, ap, ◌∙◌, length-append}
use Rattle.ae_strict_rows.proofs.strict.weaker_ones.Goals as goal

pub loop-place-init : goal.loop-place-init
loop-place-init c = ap (λ (fs : List Bool). length fs) c.new-flags.ensures

pub loop-place-preserved : goal.loop-place-preserved
loop-place-preserved c =
    let more = ap (λ (fs : List Bool). length fs) c.in_ok-push.ensures.ok ∙ length-append c.loop-place.flags (c.in_ok-weaker.weaker ∷ []) in
    let before = c.loop-place.invariant in
    omega (arith, more, before)

pub returns : goal.returns
returns c =
    let e = c.loop-place-test.false in
    let long = c.loop-place.invariant in
    let end = c.len-place-end.ensures in
    let upto = c.loop-place.auto.place-end in
    omega (arith, e, long, end, upto)
