use Rattle.std.specs.Prelude.{ℕ, ◌≡◌, List, length, get_or}
use Rattle.std.proofs.Common.{sym, ap, ◌∙◌, subst, arith}
use Rattle.std.proofs.lemmas.Option.{slice_get-get_or}
use Rattle.ae_store.specs.Shapes.{shapes}
use Rattle.ae_store.specs.Terms.{terms}
use Rattle.ae_just.specs.Inner.Pending.{RestOnEarlier}
use Rattle.ae_just.proofs.EmitLaws.{rest_on_earlier}
use Rattle.ae_short_derivations.specs.Inner.Keeping.{place_of, IsKeepable, AreKept}
use Rattle.ae_short_derivations.proofs.Kept.{needed_of, number_below, step_read, keepable, kept_turn, all_kept}
use Rattle.ae_short_derivations.proofs.shortening.shortened.Goals as goal

pub needed-requires-clause-earlier : goal.needed-requires-clause-earlier
needed-requires-clause-earlier c =
    subst RestOnEarlier (sym c.steps-steps.ensures) (rest_on_earlier c.args.store.now.signature (terms (shapes c.args.store.now.nodes)) c.args.justs.now c.requires.fits.allowed)

pub bounds-steps-number : goal.bounds-steps-number
bounds-steps-number c =
    let sig = c.args.store.now.signature in
    let ts = terms (shapes c.args.store.now.nodes) in
    let all = c.as_slice-all.result.now in
    let are = needed_of c.args.justs.now c.steps-steps.result.now c.args.step c.in_ok-needed.needed all c.steps-steps.ensures c.as_slice-all.ensures c.in_ok-needed.ensures in
    number_below sig ts c.args.justs.now c.args.step all c.requires.fits are c.requires.step c.steps-steps.result.now c.steps-steps.ensures c.loop-number.number-index c.loop-number-test.true

pub offset_bounds-steps-number : goal.offset_bounds-steps-number
offset_bounds-steps-number c =
    let sig = c.args.store.now.signature in
    let ts = terms (shapes c.args.store.now.nodes) in
    let all = c.as_slice-all.result.now in
    let are = needed_of c.args.justs.now c.steps-steps.result.now c.args.step c.in_ok-needed.needed all c.steps-steps.ensures c.as_slice-all.ensures c.in_ok-needed.ensures in
    let w = number_below sig ts c.args.justs.now c.args.step all c.requires.fits are c.requires.step c.steps-steps.result.now c.steps-steps.ensures c.loop-number.number-index c.loop-number-test.true in
    omega (arith, w)

pub keep-requires-clause-keepable : goal.keep-requires-clause-keepable
keep-requires-clause-keepable c =
    let sig = c.args.store.now.signature in
    let ts = terms (shapes c.args.store.now.nodes) in
    let steps = c.args.justs.now in
    let all = c.as_slice-all.result.now in
    let i = c.loop-number.number-index in
    let s = c.index-steps-number.result in
    let are = needed_of steps c.steps-steps.result.now c.args.step c.in_ok-needed.needed all c.steps-steps.ensures c.as_slice-all.ensures c.in_ok-needed.ensures in
    let at = step_read sig ts steps c.args.step all c.requires.fits are c.requires.step c.steps-steps.result.now c.steps-steps.ensures i c.loop-number-test.true s c.index-steps-number.is in
    subst (λ (ns : List ℕ). IsKeepable sig ts all ns c.loop-number.kept s) (sym c.as_slice.ensures)
    (keepable sig ts steps c.args.step all c.requires.fits are i c.loop-number.kept c.loop-number.numbers c.loop-number.invariant (get_or all i 0) s (slice_get-get_or all i 0 c.loop-number-test.true) at)

pub loop-number-preserved : goal.loop-number-preserved
loop-number-preserved c =
    let sig = c.args.store.now.signature in
    let ts = terms (shapes c.args.store.now.nodes) in
    let steps = c.args.justs.now in
    let all = c.as_slice-all.result.now in
    let i = c.loop-number.number-index in
    let s = c.index-steps-number.result in
    let are = needed_of steps c.steps-steps.result.now c.args.step c.in_ok-needed.needed all c.steps-steps.ensures c.as_slice-all.ensures c.in_ok-needed.ensures in
    let at = step_read sig ts steps c.args.step all c.requires.fits are c.requires.step c.steps-steps.result.now c.steps-steps.ensures i c.loop-number-test.true s c.index-steps-number.is in
    kept_turn sig ts steps c.args.step all c.requires.fits are i c.loop-number.kept c.loop-number.numbers c.loop-number.invariant (get_or all i 0) s (slice_get-get_or all i 0 c.loop-number-test.true) at
    c.keep.new.kept c.push.new.self c.in_ok-next.next c.in_ok-push.ensures.ok c.in_ok-next.ensures

pub returns : goal.returns
returns c =
    let sig = c.args.store.now.signature in
    let ts = terms (shapes c.args.store.now.nodes) in
    let steps = c.args.justs.now in
    let all = c.as_slice-all.result.now in
    let are = needed_of steps c.steps-steps.result.now c.args.step c.in_ok-needed.needed all c.steps-steps.ensures c.as_slice-all.ensures c.in_ok-needed.ensures in
    let end : c.loop-number.number-index ≡ length all = omega (arith, c.loop-number-test.false, c.loop-number.auto.number-index-end) in
    record {
      short =
          all_kept sig ts steps c.args.step all c.requires.fits are c.loop-number.kept c.loop-number.numbers c.of-step.result
          (subst (λ (n : ℕ). AreKept sig ts steps c.args.step all n c.loop-number.kept c.loop-number.numbers) end c.loop-number.invariant)
          (c.of-step.ensures ∙ ap (λ (ns : List ℕ). place_of all ns c.args.step) c.as_slice-2.ensures);
    }
