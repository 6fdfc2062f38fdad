use Rattle.std.proofs.Common.{◌≡◌, take}
use Rattle.ae_free.proofs.table.shape_with.Given as goal

abbrev pub invariant-loop-arg : goal.invariant-loop-arg
invariant-loop-arg l = l.names ≡ take l.arg-index l.args
