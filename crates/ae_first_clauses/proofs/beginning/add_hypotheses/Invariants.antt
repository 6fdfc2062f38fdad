use Rattle.ae_first_clauses.specs.Inner.Begun.{IsBegun}
use Rattle.ae_first_clauses.proofs.beginning.add_hypotheses.Given as goal

abbrev pub invariant-loop-place : goal.invariant-loop-place
invariant-loop-place l = IsBegun l.problem l.goal l.place l.first.lines.items l.first.clauses
