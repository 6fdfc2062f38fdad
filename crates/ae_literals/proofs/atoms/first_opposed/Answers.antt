use Rattle.std.proofs.Common.{◌<◌, length, subst, arith}
use Rattle.std.proofs.lemmas.Option.{slice_get_within}
use native.Mathlib.Decide.{ℕ_discrete}
use Rattle.ae_sweeps.specs.Given.{rep_in}
use Rattle.ae_literals.specs.Unmet.{AreOpposed}
use Rattle.ae_literals.proofs.atoms.first_opposed.Goals as goal

pub loop-positive-preserved : goal.loop-positive-preserved
loop-positive-preserved c = λ i j l o.
    elim (ℕ_discrete i c.loop-positive.positive) [
      | yes e ↦ c.in_default.ensures.none j (subst (λ z. AreOpposed c.args.store.now.nodes (rep_in c.args.reps.now) c.args.said.now z j) e o)
      | no n ↦ c.loop-positive.invariant i j (omega (arith, l, n)) o
    ]

pub returns-clause-none : goal.returns-clause-none
returns-clause-none c = λ i j o.
    let l : i < length c.args.said.now = slice_get_within c.args.said.now i _ o.positive in
    c.loop-positive.invariant i j (omega (arith, l, c.loop-positive-test.false, c.loop-positive.auto.positive-end)) o
