use Rattle.std.specs.Prelude.{◌<◌, ◌≡◌, ℕ, slice_get, Some}
use Rattle.ae_sweeps.specs.Given.{rep_in}
use Rattle.ae_literals.specs.declared.said.Said.{Said}
use Rattle.ae_literals.specs.Inner.Parts.{Contradicts}
use Rattle.ae_literals.proofs.equations.first_contradicted.Given as goal

abbrev pub invariant-loop-at : goal.invariant-loop-at
invariant-loop-at l = (k : ℕ) (y : Said) → k < l.at → slice_get l.said k ≡ Some y → ¬ Contradicts (rep_in l.reps) y
