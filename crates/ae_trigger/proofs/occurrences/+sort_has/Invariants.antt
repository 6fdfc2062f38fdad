use Rattle.std.proofs.Common.{◌≡◌, false, take}
use Rattle.std.specs.List.{list_any}
use Rattle.ae_rules.specs.Matches.{sort_has}
use Rattle.ae_trigger.proofs.occurrences.+sort_has.Given as goal

abbrev pub invariant-sorts_have-loop-sort : goal.invariant-sorts_have-loop-sort
invariant-sorts_have-loop-sort l = list_any (sort_has l.number) (take l.sort-index l.sorts) ≡ false
