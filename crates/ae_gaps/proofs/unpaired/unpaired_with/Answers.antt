use Rattle.std.specs.Prelude.{ℕ}
use Rattle.std.proofs.Common.{below_more, arith}
use Rattle.ae_equations.specs.Paired.{partners}
use Rattle.ae_monoid.specs.Rules.{rule_at}
use Rattle.ae_gaps.specs.Inner.Overlapping.{ArePairedOrApart}
use Rattle.ae_gaps.proofs.unpaired.unpaired_with.Goals as goal

pub loop-first-preserved : goal.loop-first-preserved
loop-first-preserved c =
    let K = λ (k : ℕ). rule_at c.args.equations.now.rules k in
    let P = λ (k : ℕ). partners c.args.equations.now.pairs k in
    λ m l. below_more (λ j. ArePairedOrApart K P j c.args.second) c.loop-first.first c.loop-first.invariant (c.in_ok-are_unpaired.ensures.no c.if-branch.false) m l

pub returns-clause-none : goal.returns-clause-none
returns-clause-none c = λ m l. c.loop-first.invariant m (omega (arith, l, c.loop-first-test.false))
