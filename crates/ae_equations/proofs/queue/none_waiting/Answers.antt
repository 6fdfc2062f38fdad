use Rattle.std.proofs.Common.{ap}
use Rattle.std.specs.Prelude.{ℕ, map}
use Rattle.ae_equations.specs.declared.queue.Waiting.{Waiting}
use Rattle.ae_equations.proofs.QueueLaws.{placed_none}
use Rattle.ae_equations.proofs.queue.none_waiting.Goals as goal

pub returns-clause-placed : goal.returns-clause-placed
returns-clause-placed c = placed_none (record { places = c.new.result; next = 0 }) c.new.ensures

pub returns-clause-none : goal.returns-clause-none
returns-clause-none c = ap (map (λ (p : ℕ × Waiting). p.1)) c.new.ensures
