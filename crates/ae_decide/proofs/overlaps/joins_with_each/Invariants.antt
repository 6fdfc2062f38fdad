use Rattle.std.proofs.Common.{◌≡◌, true, take}
use Rattle.std.specs.List.{list_all}
use Rattle.ae_decide.specs.Overlaps.{overlap_joins}
use Rattle.ae_decide.proofs.overlaps.joins_with_each.Given as goal

abbrev pub invariant-loop-other : goal.invariant-loop-other
invariant-loop-other l = list_all (overlap_joins l.rules l.rule) (take l.other-index l.rules) ≡ true
