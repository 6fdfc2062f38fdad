use Rattle.std.specs.Prelude.{ℕ, ◌<◌}
use Rattle.std.proofs.Common.{ap, below_more, arith}
use Rattle.ae_equations.specs.Paired.{partners}
use Rattle.ae_monoid.specs.Rules.{Contents as Rules, rule_at}
use Rattle.ae_sweeps.proofs.Bridges.{from_none}
use Rattle.ae_gaps.specs.Inner.Overlapping.{ArePairedOrApart}
use Rattle.ae_gaps.proofs.unpaired.first_unpaired.Goals as goal

pub loop-second-preserved : goal.loop-second-preserved
loop-second-preserved c =
    let K = λ (k : ℕ). rule_at c.args.equations.now.rules k in
    let P = λ (k : ℕ). partners c.args.equations.now.pairs k in
    let here : (m : ℕ) → m < c.loop-second.second → ArePairedOrApart K P m c.loop-second.second = from_none c.in_ok-first.field-0 c.in_default.not-Some c.in_ok-first.ensures.none in
    λ m n l k. below_more (λ j. (i : ℕ) → i < j → ArePairedOrApart K P i j) c.loop-second.second (λ j h i b. c.loop-second.invariant i j b h) here n k m l

pub returns-clause-none : goal.returns-clause-none
returns-clause-none c = λ m n l k. c.loop-second.invariant m n l (omega (arith, k, c.loop-second-test.false, c.len-second-end.ensures, ap (λ (r : Rules). r.next) c.rules.ensures.rules))
