use Rattle.std.specs.Prelude.{get_or}
use Rattle.std.proofs.Common.{arith}
use Rattle.std.proofs.lemmas.Option.{slice_get-get_or}
use Rattle.ae_store.proofs.EnterLaws.{front_then}
use Rattle.ae_gaps.proofs.ArgumentSteps.{equalling_none, equalling_more, equalling_all}
use Rattle.ae_gaps.proofs.congruences.equal_each.Goals as goal

pub loop-i-init : goal.loop-i-init
loop-i-init c = equalling_none c.args.store.now c.args.justs.now c.args.values.now c.args.left.now c.args.right.now c.new-steps.result c.new-steps.ensures c.requires.held

pub equal_step-requires : goal.equal_step-requires
equal_step-requires c =
    let xs = c.args.left.now in
    let ys = c.args.right.now in
    let i = c.loop-i.i in
    let m = c.requires.same.as_many in
    let h = c.loop-i.invariant.held in
    let a = c.requires.same.each i (get_or xs i 0) (get_or ys i 0) (slice_get-get_or xs i 0 c.loop-i-test.true) (slice_get-get_or ys i 0 (omega (arith, m, c.loop-i-test.true))) in
    record { fits = h.fits; patterns = h.patterns; values = h.values; said = h.said; left_sorted = a.left; right_sorted = a.right; alike = a.same }

pub loop-i-preserved : goal.loop-i-preserved
loop-i-preserved c =
    let xs = c.args.left.now in
    let ys = c.args.right.now in
    let i = c.loop-i.i in
    let m = c.requires.same.as_many in
    equalling_more c.args.store.now c.args.justs.now c.args.values.now xs ys c.loop-i.justs c.equal_step.new.justs c.loop-i.steps c.push.new.self i (get_or xs i 0) (get_or ys i 0) c.in_ok-step.step c.requires.held.said
    c.loop-i.invariant (slice_get-get_or xs i 0 c.loop-i-test.true) (slice_get-get_or ys i 0 (omega (arith, m, c.loop-i-test.true))) c.in_ok-push.ensures.ok c.in_ok-step.ensures.states c.in_ok-step.ensures.rests
    c.equal_step.ensures.front c.equal_step.ensures.fits

pub returns-in_err-step-clause-front : goal.returns-in_err-step-clause-front
returns-in_err-step-clause-front c = front_then c.args.justs.now c.loop-i.justs c.equal_step.new.justs c.loop-i.invariant.front c.equal_step.ensures.front

pub returns-in_err-push-clause-front : goal.returns-in_err-push-clause-front
returns-in_err-push-clause-front c = front_then c.args.justs.now c.loop-i.justs c.equal_step.new.justs c.loop-i.invariant.front c.equal_step.ensures.front

pub returns-clause-equal : goal.returns-clause-equal
returns-clause-equal c =
    equalling_all c.args.store.now c.args.justs.now c.args.values.now c.args.left.now c.args.right.now c.loop-i.justs c.loop-i.steps c.loop-i.i c.requires.same c.loop-i.invariant c.loop-i-test.false (omega arith)

pub returns-clause-rests : goal.returns-clause-rests
returns-clause-rests c id m = (c.loop-i.invariant.rests id m).1
