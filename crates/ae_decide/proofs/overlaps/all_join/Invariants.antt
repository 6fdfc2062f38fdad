use Rattle.std.proofs.Common.{◌≡◌, true, take}
use Rattle.std.specs.List.{list_all}
use Rattle.ae_decide.specs.Overlaps.{overlap_joins}
use Rattle.ae_decide.proofs.overlaps.all_join.Given as goal

abbrev pub invariant-loop-rule : goal.invariant-loop-rule
invariant-loop-rule l = list_all (λ d. list_all (overlap_joins l.rules d) l.rules) (take l.rule-index l.rules) ≡ true
