use Rattle.std.specs.Prelude.{◌≡◌, ◌<◌, ℕ, get_or}
use Rattle.ae_sweeps.specs.Given.{rep_in}
use Rattle.ae_sweeps.proofs.sides.are_own.Given as goal

abbrev pub invariant-loop-i : goal.invariant-loop-i
invariant-loop-i l = (k : ℕ) → k < l.i → rep_in l.reps (get_or l.names k 0) ≡ get_or l.names k 0
