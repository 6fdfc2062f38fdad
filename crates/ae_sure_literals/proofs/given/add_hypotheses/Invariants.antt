use Rattle.std.proofs.Common.{◌≡◌, ◌++◌}
use Rattle.ae_sure_literals.specs.Inner.Given.{hypotheses_before}
use Rattle.ae_sure_literals.proofs.given.add_hypotheses.Given as goal

abbrev pub invariant-loop-place : goal.invariant-loop-place
invariant-loop-place l = l.given ≡ l.fn.given ++ hypotheses_before l.problem l.goal l.place
