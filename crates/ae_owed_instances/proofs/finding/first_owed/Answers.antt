use Rattle.std.proofs.Common.{ℕ, ◌≡◌, length, subst, arith, inl, inr}
use Rattle.std.proofs.lemmas.Bool.{cases_lt}
use Rattle.ae_owed_instances.specs.Inner.Passing.{HaveNone}
use Rattle.ae_owed_instances.proofs.finding.first_owed.Goals as goal

pub loop-number-preserved : goal.loop-number-preserved
loop-number-preserved c = λ n l.
    elim (cases_lt n c.loop-number.number) as (λ _. HaveNone c.args.search.now n (length c.args.search.now.owners)) [
      | inl lt ↦ c.loop-number.invariant n lt
      | inr ge ↦
          (let s : c.loop-number.number ≡ n = omega (arith, l, ge) in
          subst (λ (z : ℕ). HaveNone c.args.search.now z (length c.args.search.now.owners)) s (c.in_ok-owed.ensures.none (c.is_empty.ensures.0 c.if-not-is_empty.false)))
    ]
