use Rattle.std.proofs.Common.{◌≡◌, take}
use Rattle.std.specs.List.{flat_map}
use Rattle.ae_elab.specs.Numbering.{once_more, sorts_in_term}
use Rattle.ae_elaboration.proofs.CollectLaws.{opened}
use Rattle.ae_elaboration.proofs.numbering.collect_triggers.Given as goal

abbrev pub invariant-loop-trigger : goal.invariant-loop-trigger
invariant-loop-trigger l = l.variables ≡ once_more l.fn.variables (opened (flat_map (flat_map sorts_in_term) (take l.trigger-index l.triggers)))
