use Rattle.std.proofs.Common.{◌≡◌, map, take}
use Rattle.ae_elab.specs.Numbering.{numbered_sort}
use Rattle.ae_elaboration.proofs.numbering.numbered_sorts.Given as goal

abbrev pub invariant-loop-sort : goal.invariant-loop-sort
invariant-loop-sort l = l.copies ≡ map (numbered_sort l.is_goal l.variables) (take l.sort-index l.sorts)
