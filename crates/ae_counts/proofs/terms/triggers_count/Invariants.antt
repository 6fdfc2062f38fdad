use Rattle.std.proofs.Common.{◌≡◌, true, take}
use Rattle.std.specs.List.{list_all}
use Rattle.ae_counts.specs.Inner.Counted as spec
use Rattle.ae_counts.proofs.terms.triggers_count.Given as goal

abbrev pub invariant-loop-trigger : goal.invariant-loop-trigger
invariant-loop-trigger l = list_all (list_all spec.term_counts) (take l.trigger-index l.triggers) ≡ true
