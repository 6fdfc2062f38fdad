use Rattle.std.proofs.Common.{◌≡◌, take}
use Rattle.std.specs.List.{flat_map}
use Rattle.ae_elab.specs.Numbering.{once_more, sorts_in_term}
use Rattle.ae_elaboration.proofs.CollectLaws.{opened}
use Rattle.ae_elaboration.proofs.numbering.+collect_term.Given as goal

abbrev pub invariant-loop-arg : goal.invariant-loop-arg
invariant-loop-arg l = l.variables ≡ once_more l.initial.variables (opened (flat_map sorts_in_term (take l.arg-index l.arg-items)))
