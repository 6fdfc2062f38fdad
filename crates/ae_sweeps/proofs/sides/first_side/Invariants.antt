use Rattle.std.specs.Prelude.{◌<◌, ℕ}
use Rattle.ae_sweeps.specs.Given.{rep_in, entries_of}
use Rattle.ae_sweeps.specs.Inner.Parts.{AreSidesSwept}
use Rattle.ae_sweeps.proofs.sides.first_side.Given as goal

abbrev pub invariant-loop-number : goal.invariant-loop-number
invariant-loop-number l = (n : ℕ) → n < l.number → AreSidesSwept (rep_in l.reps) (entries_of l.rules) n
