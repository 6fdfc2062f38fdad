use Rattle.std.proofs.Common.{◌≡◌, take}
use Rattle.ae_elab.specs.Numbering.{once_more}
use Rattle.ae_elaboration.proofs.CollectLaws.{opened}
use Rattle.ae_elaboration.proofs.numbering.collect_sorts.Given as goal

abbrev pub invariant-loop-sort : goal.invariant-loop-sort
invariant-loop-sort l = l.variables ≡ once_more l.fn.variables (opened (take l.sort-index l.sorts))
