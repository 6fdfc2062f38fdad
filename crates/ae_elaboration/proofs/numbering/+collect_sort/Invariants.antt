use Rattle.std.proofs.Common.{◌≡◌, take}
use Rattle.ae_elab.specs.Numbering.{once_more}
use Rattle.ae_elaboration.proofs.CollectLaws.{opened}
use Rattle.ae_elaboration.proofs.numbering.+collect_sort.Given as goal

abbrev pub invariant-loop-arg : goal.invariant-loop-arg
invariant-loop-arg l = l.variables ≡ once_more l.fn.variables (opened (take l.arg-index l.arg-items))
