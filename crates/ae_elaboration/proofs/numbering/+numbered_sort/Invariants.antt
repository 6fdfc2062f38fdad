use Rattle.std.proofs.Common.{◌≡◌, map, take}
use Rattle.ae_elab.specs.Numbering.{numbered_sort}
use Rattle.ae_elaboration.proofs.numbering.+numbered_sort.Given as goal

abbrev pub invariant-loop-arg : goal.invariant-loop-arg
invariant-loop-arg l = l.sorts ≡ map (numbered_sort l.is_goal l.variables) (take l.arg-index l.arg-items)
