use Rattle.std.proofs.Common.{◌<◌, sym, subst, arith}
use native.Mathlib.Decide.{ℕ_discrete}
use Rattle.ae_base.proofs.ListFacts.{get_front}
use Rattle.ae_value_table.specs.Table.{number_at}
use Rattle.ae_whole_values.specs.Wholes.{IsWhole, IsIntegerName}
use Rattle.ae_whole_values.proofs.fractions.first_fraction.Goals as goal

pub loop-name-preserved : goal.loop-name-preserved
loop-name-preserved c = λ n l i.
    elim (ℕ_discrete n c.loop-name.name) [
      | yes e ↦ subst (λ k. IsWhole (number_at c.args.values.now k)) (sym e) (c.in_default.ensures.none (subst (IsIntegerName c.args.values.now) e i))
      | no m ↦ c.loop-name.invariant n (omega (arith, l, m)) i
    ]

pub returns-clause-none : goal.returns-clause-none
returns-clause-none c = λ n i.
    let l : n < c.args.values.now.taken = (get_front c.args.values.now.entries c.args.values.now.taken n i.entry i.at).1 in
    c.loop-name.invariant n (omega (arith, l, c.loop-name-test.false, c.loop-name.auto.name-end, c.len-name-end.ensures.len)) i
