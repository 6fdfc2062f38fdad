use Rattle.std.specs.Prelude.{◌<◌, ℕ}
use Rattle.ae_equations.specs.Paired.{partners}
use Rattle.ae_monoid.specs.Rules.{rule_at}
use Rattle.ae_gaps.specs.Inner.Overlapping.{ArePairedOrApart}
use Rattle.ae_gaps.proofs.unpaired.first_unpaired.Given as goal

abbrev pub invariant-loop-second : goal.invariant-loop-second
invariant-loop-second l = (m n : ℕ) → m < n → n < l.second → ArePairedOrApart (λ k. rule_at l.equations.rules k) (λ k. partners l.equations.pairs k) m n
