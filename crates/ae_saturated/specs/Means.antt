-- What an answer says of a state.
use Rattle.std.specs.Prelude.{ℕ}
use Rattle.ae_core.specs.declared.problems.Problem.{Problem}
use Rattle.ae_journal.specs.States.{IsSaturated}
use Rattle.ae_journal.specs.declared.systems.Saturated.{Saturated}
use Rattle.ae_saturated.specs.Open.{IsOpen}
use Rattle.ae_saturated.specs.declared.saturated.Told.{Told}
use Rattle.ae_saturated.specs.declared.saturated.Told.TheVariants.{Yes, No, Open}

-- `Yes` and `No` are said of the states that aren't open, for whatever bound on generations
abbrev pub Means : Problem → ℕ → Saturated → Told → Type 0
Means p g st Yes = (¬ IsOpen p g st) × ((bound : ℕ) → IsSaturated p g st bound)
Means p g st No = (¬ IsOpen p g st) × ((bound : ℕ) → ¬ IsSaturated p g st bound)
Means p g st Open = IsOpen p g st
