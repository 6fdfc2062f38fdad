use Rattle.std.proofs.Common.{◌≡◌, drop}
use Rattle.ae_matching.specs.SortMatching as spec
use Rattle.ae_matching.proofs.sorts.is_bound.Given as goal

abbrev pub invariant-loop-binding : goal.invariant-loop-binding
invariant-loop-binding l = spec.found l.variable l.bindings ≡ spec.found l.variable (drop l.binding-index l.bindings)
