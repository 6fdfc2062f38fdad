use Rattle.std.proofs.Common.{ℕ, ◌<◌}
use Rattle.ae_explain.specs.Trail.{at}
use Rattle.ae_opening.specs.Asking.{IsServed}
use Rattle.ae_opening.proofs.asking.next_unopened.Given as goal

abbrev pub invariant-loop-place : goal.invariant-loop-place
invariant-loop-place l = (j : ℕ) → j < l.place → IsServed l.opened (at l.trail.assigned j).lit
