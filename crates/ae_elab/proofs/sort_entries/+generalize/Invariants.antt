use Rattle.std.proofs.Common.{◌≡◌, map, take}
use Rattle.ae_elab.specs.Declarations.{generalize}
use Rattle.ae_elab.proofs.sort_entries.+generalize.Given as goal

abbrev pub invariant-loop-arg : goal.invariant-loop-arg
invariant-loop-arg l = l.sorts ≡ map generalize (take l.arg-index l.arg-items)
