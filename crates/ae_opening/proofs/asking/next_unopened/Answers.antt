use Rattle.std.proofs.Common.{◌≡◌, subst, arith, inl, inr}
use Rattle.std.proofs.lemmas.Bool.{cases_lt}
use Rattle.ae_explain.specs.Trail.{at}
use Rattle.ae_opening.specs.Asking.{IsServed, IsUnopened}
use Rattle.ae_opening.proofs.asking.next_unopened.Goals as goal

pub returns-then-is_unopened : goal.returns-then-is_unopened
returns-then-is_unopened c = record {
  within = omega (arith, c.loop-place-test.true, c.loop-place.auto.place-end, c.len-place-end.ensures);
  unopened = subst (IsUnopened c.args.opened.now) c.lit_at.ensures c.if-is_unopened.ensures;
  before = c.loop-place.invariant;
}

pub loop-place-preserved : goal.loop-place-preserved
loop-place-preserved c = λ j lt.
    elim (cases_lt j c.loop-place.place) as (λ _. IsServed c.args.opened.now (at c.args.trail.now.assigned j).lit) [
      | inl l ↦ c.loop-place.invariant j l
      | inr g ↦
          let e : c.loop-place.place ≡ j = omega (arith, lt, g) in
          subst (λ k. IsServed c.args.opened.now (at c.args.trail.now.assigned k).lit) e (subst (IsServed c.args.opened.now) c.lit_at.ensures c.if-is_unopened.ensures)
    ]
