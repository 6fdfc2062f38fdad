use Rattle.std.specs.Prelude.{◌<◌, ℕ}
use Rattle.ae_sweeps.specs.Given.{entries_of}
use Rattle.ae_sweeps.specs.Inner.Parts.{IsPairSwept}
use Rattle.ae_sweeps.proofs.pairs.first_pair.Given as goal

abbrev pub invariant-loop-second : goal.invariant-loop-second
invariant-loop-second l = (m n : ℕ) → m < n → n < l.second → IsPairSwept (entries_of l.rules) m n
