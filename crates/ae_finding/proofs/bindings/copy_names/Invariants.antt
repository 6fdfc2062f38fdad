use Rattle.std.proofs.Common.{◌≡◌, take}
use Rattle.ae_finding.proofs.bindings.copy_names.Given as goal

abbrev pub invariant-loop-binding : goal.invariant-loop-binding
invariant-loop-binding l = l.copies ≡ take l.binding-index l.names
