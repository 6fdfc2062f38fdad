use Rattle.std.specs.Prelude.{◌<◌, ◌≡◌, ℕ, get_or}
use Rattle.ae_sweeps.specs.Given.{rep_in}
use Rattle.ae_literals.proofs.atoms.same_representatives.Given as goal

abbrev pub invariant-loop-i : goal.invariant-loop-i
invariant-loop-i l = (k : ℕ) → k < l.i → rep_in l.reps (get_or l.left k 0) ≡ rep_in l.reps (get_or l.right k 0)
