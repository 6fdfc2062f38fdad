use Rattle.std.proofs.Common.{◌≡◌, ◌≢◌, ◌∙◌, ◌+◌, ℕ, length, max, refl, sym, subst, arith, true≢false, Some}
use Rattle.ae_searching.specs.Inner.Starts.{AreOthersFalse, StartsAt}
use Rattle.ae_searching.proofs.Firing.{others_more, others_never, others_same, stands_at}
use Rattle.ae_searching.proofs.levels.others_false_from.Goals.{then-not-same_lit+in-Some, else-not-same_lit}
use Rattle.ae_searching.proofs.levels.others_false_from.Goals as goal

pub returns-in-None : goal.returns-in-None
returns-in-None c =
    let u = c.args.clause.now in
    let i = c.loop-i.i in
    let x = c.index-clause-i.result in
    let y = c.index-clause-i-then-not-same_lit.result in
    let same : y ≡ x = stands_at u i i x y refl c.loop-i-test.true (sym c.index-clause-i.is) (sym c.index-clause-i-then-not-same_lit.is) in
    let n : y ≢ c.args.one.now = λ q. true≢false (sym (c.if-not-same_lit.ensures.1 (sym same ∙ q))) in
    others_never c.args.trail.now.assigned u i y c.loop-i-test.true (sym c.index-clause-i-then-not-same_lit.is) c.args.one.now n c.in-None.ensures

pub loop-i-preserved : goal.loop-i-preserved
loop-i-preserved c =
    let t = c.args.trail.now.assigned in
    let u = c.args.clause.now in
    let i = c.loop-i.i in
    let x = c.index-clause-i.result in
    let one = c.args.one.now in
    let old = c.loop-i.level in
    elim c.if-not-same_lit.branch as (λ _. StartsAt (AreOthersFalse t u (i + 1) one) (Some c.if-not-same_lit.level)) [
      | then-not-same_lit+in-Some w ↦
          let y = w.index-clause-i-then-not-same_lit.result in
          let same : y ≡ x = stands_at u i i x y refl c.loop-i-test.true (sym c.index-clause-i.is) (sym w.index-clause-i-then-not-same_lit.is) in
          let n : y ≢ one = λ q. true≢false (sym (w.if-not-same_lit.ensures.1 (sym same ∙ q))) in
          let e : c.if-not-same_lit.level ≡ max w.in-Some.its old = omega (arith, w.level-is, w.max-level.ensures) in
          subst (λ (k : ℕ). StartsAt (AreOthersFalse t u (i + 1) one) (Some k)) (sym e)
          (others_more t u i y c.loop-i-test.true (sym w.index-clause-i-then-not-same_lit.is) one w.in-Some.its old n w.in-Some.ensures c.loop-i.invariant)
      | else-not-same_lit w ↦
          subst (λ (k : ℕ). StartsAt (AreOthersFalse t u (i + 1) one) (Some k)) (sym w.level-is)
          (others_same t u i x c.loop-i-test.true (sym c.index-clause-i.is) one old (w.if-not-same_lit.ensures.0 refl) c.loop-i.invariant)
    ]

pub returns : goal.returns
returns c =
    let u = c.args.clause.now in
    let e : c.loop-i.i ≡ length u = omega (arith, c.loop-i-test.false, c.loop-i.auto.i-end) in
    subst (λ (n : ℕ). StartsAt (AreOthersFalse c.args.trail.now.assigned u n c.args.one.now) (Some c.loop-i.level)) e c.loop-i.invariant
