-- The places of the equations that wait are below the next one.
use Rattle.std.specs.Prelude.{ℕ, ◌<◌}
use Rattle.std.specs.List.{AllByRecursion}
use Rattle.ae_pmap.specs.Forest.{present}
use Rattle.ae_equations.specs.declared.queue.Queue.{Queue}
use Rattle.ae_equations.specs.declared.queue.Waiting.{Waiting}

pub record ArePlaced (q : Queue) : Type 0 where
  pub below : AllByRecursion (λ (p : ℕ × Waiting). p.0 < q.next) (present q.places)
