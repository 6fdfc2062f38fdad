use Rattle.std.specs.Prelude.{◌<◌, ℕ}
use Rattle.ae_equations.specs.Paired.{partners}
use Rattle.ae_monoid.specs.Rules.{rule_at}
use Rattle.ae_gaps.specs.Inner.Overlapping.{ArePairedOrApart}
use Rattle.ae_gaps.proofs.unpaired.unpaired_with.Given as goal

abbrev pub invariant-loop-first : goal.invariant-loop-first
invariant-loop-first l = (m : ℕ) → m < l.first → ArePairedOrApart (λ n. rule_at l.equations.rules n) (λ n. partners l.equations.pairs n) m l.second
