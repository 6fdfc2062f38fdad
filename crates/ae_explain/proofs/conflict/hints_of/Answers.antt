use Rattle.std.proofs.Common.{rules, ◌≡◌, ◌∙◌, ◌++◌, [], length, if◌then◌else◌, arith}
use Rattle.ae_explain.specs.Trail.{at}
use Rattle.ae_explain.specs.Inner.Marks.{resolved, reasons}
use Rattle.ae_explain.proofs.Reading.{hints_more, hints_done}
use Rattle.ae_explain.proofs.conflict.hints_of.Goals as goal

pub loop-place-preserved : goal.loop-place-preserved
loop-place-preserved c =
    let gave_way : c.eq.result ≡ resolved c.args.marks.now c.loop-place.place = search rules in
    let pushed : c.push_hint.new.hints ≡ c.loop-place.hints ++ (if resolved c.args.marks.now c.loop-place.place then reasons (at c.args.trail.now.assigned c.loop-place.place).by else []) =
    c.in_ok-push_hint.ensures ∙ (λ i. c.loop-place.hints ++ (if gave_way i then reasons (c.by_at.ensures i) else [])) in
    hints_more c.args.trail.now.assigned c.args.marks.now c.args.last c.loop-place.hints c.push_hint.new.hints _ (length c.args.trail.now.assigned) c.loop-place.place
    (omega (arith, c.loop-place-test.true, c.len-place-end.ensures)) pushed c.loop-place.invariant

pub returns : goal.returns
returns c =
    c.in_ok-push.ensures.ok
    ∙ hints_done c.args.trail.now.assigned c.args.marks.now c.args.last c.loop-place.hints _ (length c.args.trail.now.assigned) c.loop-place.place (omega (arith, c.loop-place-test.false, c.len-place-end.ensures)) c.loop-place.invariant
