use Rattle.std.specs.Prelude.{◌<◌, ℕ}
use Rattle.ae_sweeps.specs.Given.{entries_of}
use Rattle.ae_sweeps.specs.Inner.Parts.{IsPairSwept}
use Rattle.ae_sweeps.proofs.pairs.first_partner.Given as goal

abbrev pub invariant-loop-first : goal.invariant-loop-first
invariant-loop-first l = (m : ℕ) → m < l.first → IsPairSwept (entries_of l.rules) m l.second
