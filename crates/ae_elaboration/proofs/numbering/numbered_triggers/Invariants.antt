use Rattle.std.proofs.Common.{◌≡◌, map, take}
use Rattle.ae_elab.specs.Numbering.{numbered_sort, with_sorts_term}
use Rattle.ae_elaboration.proofs.numbering.numbered_triggers.Given as goal

abbrev pub invariant-loop-trigger : goal.invariant-loop-trigger
invariant-loop-trigger l = l.copies ≡ map (map (with_sorts_term (numbered_sort l.is_goal l.variables))) (take l.trigger-index l.triggers)
