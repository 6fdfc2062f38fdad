use Rattle.std.proofs.Common.{◌≡◌, take}
use Rattle.ae_matching.proofs.sorts.copy_bindings.Given as goal

abbrev pub invariant-loop-binding : goal.invariant-loop-binding
invariant-loop-binding l = l.copies ≡ take l.binding-index l.bindings
