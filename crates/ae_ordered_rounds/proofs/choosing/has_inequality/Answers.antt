use Rattle.std.specs.Prelude.{ℕ, ◌<◌}
use Rattle.std.proofs.Common.{arith, sym, ap, ◌∙◌, subst}
use Rattle.ae_journal.specs.States.{inequality}
use Rattle.ae_ordered_rounds.proofs.Trails.{none_at_all, none_more}
use Rattle.ae_ordered_rounds.proofs.choosing.has_inequality.Goals as goal

pub loop-place-init : goal.loop-place-init
loop-place-init c = λ k l. absurd (omega (arith, l))

pub returns-in-Some : goal.returns-in-Some
returns-in-Some c =
    let within = subst (λ (n : ℕ). c.loop-place.place < n) c.len-place-end.ensures c.loop-place-test.true in
    let found = c.in-Some._found in (
      record { left = found.lower.now; right = found.upper.now },
      record { literal = c.lit_at.result.now; strict = found.strict; holds = (c.loop-place.place, within, sym c.lit_at.ensures); is = c.in-Some.ensures.some },
    )

pub loop-place-preserved : goal.loop-place-preserved
loop-place-preserved c =
    none_more c.args.trail.now.assigned c.loop-place.place c.loop-place.invariant (ap inequality (sym c.lit_at.ensures) ∙ c.in-None.ensures.none)

pub returns : goal.returns
returns c =
    let e = c.loop-place-test.false in
    let n = c.len-place-end.ensures in
    none_at_all c.args.trail.now.assigned c.loop-place.place c.loop-place.invariant (λ l. omega (arith, l, e, n))
