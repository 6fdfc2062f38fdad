-- The equations that wait.
use Rattle.std.specs.Prelude.{ℕ, List, map, slice_index_or}
use Rattle.ae_pmap.specs.Forest.{present}
use Rattle.ae_monoid.specs.declared.pending.PendingPair.{PendingPair}
use Rattle.ae_equations.specs.declared.queue.Queue.{Queue}
use Rattle.ae_equations.specs.declared.queue.Waiting.{Waiting}

-- the oldest first
abbrev pub waiting : Queue → List Waiting
waiting q = map (λ (p : ℕ × Waiting). p.1) (present q.places)

-- the equation of a rule that was taken out, with the rule's justification
abbrev pub equation_of : PendingPair → Waiting
equation_of p = record { symbol = p.symbol; left = p.left; right = p.right; step = slice_index_or p.justs 0 0 }
