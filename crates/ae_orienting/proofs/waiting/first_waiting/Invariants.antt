use Rattle.std.specs.Prelude.{length}
use Rattle.ae_equations.specs.Queued.{waiting}
use Rattle.ae_orienting.proofs.Taking.{IsGivingUp}
use Rattle.ae_orienting.proofs.waiting.first_waiting.Given as goal

abbrev pub invariant-turns : goal.invariant-turns
invariant-turns l = IsGivingUp l.store l.reps l.initial.held l.held l.initial.journal l.journal

abbrev pub decreases-turns : goal.decreases-turns
decreases-turns l = length (waiting l.held.equations.queue)
