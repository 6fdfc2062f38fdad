use Rattle.std.proofs.Common.{◌≡◌, drop}
use Rattle.ae_matching.specs.Generating as spec
use Rattle.ae_finding.proofs.bindings.name_found.Given as goal

abbrev pub invariant-loop-binding : goal.invariant-loop-binding
invariant-loop-binding l = spec.name_found l.variable l.names ≡ spec.name_found l.variable (drop l.binding-index l.names)
