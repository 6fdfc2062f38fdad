use Rattle.std.proofs.Common.{◌≡◌, ◌∙◌, ◌+◌, ◌<◌, ℕ, length, sym, subst, arith, true≢false, inl, inr}
use Rattle.std.proofs.lemmas.Bool.{cases_eq, eqb-true, eq-eqb}
use Rattle.ae_searching.specs.Inner.Starts.{HasCandidate, StartsAt}
use Rattle.ae_searching.proofs.Firing.{candidates_more, unit_all, unit_empty}
use Rattle.ae_searching.proofs.levels.unit_from.Goals as goal

pub returns-then-is_empty : goal.returns-then-is_empty
returns-then-is_empty c =
    let u = c.args.clause.now in
    unit_empty c.args.trail.now.assigned u (eqb-true (length u) 0 (sym c.is_empty.ensures ∙ c.if-is_empty.true))

pub loop-i-preserved : goal.loop-i-preserved
loop-i-preserved c =
    let t = c.args.trail.now.assigned in
    let u = c.args.clause.now in
    let i = c.loop-i.i in
    subst (StartsAt (HasCandidate t u (i + 1))) (sym c.lesser_of-least.ensures)
    (candidates_more t u i c.index-clause-i.result c.loop-i-test.true (sym c.index-clause-i.is) c.others_false_from.result c.loop-i.least c.others_false_from.ensures c.loop-i.invariant)

pub returns : goal.returns
returns c =
    let t = c.args.trail.now.assigned in
    let u = c.args.clause.now in
    let e : c.loop-i.i ≡ length u = omega (arith, c.loop-i-test.false, c.loop-i.auto.i-end) in
    let pos : 0 < length u = elim (cases_eq (length u) 0) as (λ _. 0 < length u) [
      | inl z ↦ absurd (true≢false (sym (eq-eqb (length u) 0 z) ∙ (sym c.is_empty.ensures ∙ c.if-is_empty.false)))
      | inr d ↦ omega (arith, d)
    ] in
    unit_all t u c.loop-i.least pos (subst (λ (n : ℕ). StartsAt (HasCandidate t u n) c.loop-i.least) e c.loop-i.invariant)
