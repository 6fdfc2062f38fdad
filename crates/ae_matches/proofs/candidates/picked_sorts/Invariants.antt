use Rattle.std.proofs.Common.{◌≡◌}
use Rattle.ae_matches.specs.Candidates as spec
use Rattle.ae_matches.proofs.candidates.picked_sorts.Given as goal

abbrev pub invariant-loop-variable : goal.invariant-loop-variable
invariant-loop-variable l = l.sorts ≡ spec.picked_sorts l.variable l.bindings
