-- What is held: rules, which of them were paired, and the equations that wait.
use Rattle.std.specs.Prelude.{ℕ, ◌<◌}
use Rattle.std.specs.List.{Contains}
use Rattle.ae_monoid.specs.Rules as monoid
use Rattle.ae_equations.specs.declared.pairs.Pairs.{Pairs}
use Rattle.ae_equations.specs.declared.queue.Queue.{Queue}
use Rattle.ae_equations.specs.Paired.{partners}

pub record Contents : Type 0 where
  pub rules : monoid.Contents
  pub pairs : Pairs
  pub queue : Queue

-- rules that were paired have numbers that were given
pub record ArePairsGiven (pairs : Pairs) (next : ℕ) : Type 0 where
  pub each : (m n : ℕ) → Contains (partners pairs m) n → (m < next) × (n < next)
