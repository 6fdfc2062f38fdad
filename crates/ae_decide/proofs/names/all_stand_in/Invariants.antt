use Rattle.std.proofs.Common.{◌≡◌, true, take}
use Rattle.std.specs.List.{list_all}
use Rattle.ae_decide.specs.Names.{stands_in}
use Rattle.ae_decide.proofs.names.all_stand_in.Given as goal

abbrev pub invariant-loop-term : goal.invariant-loop-term
invariant-loop-term l = list_all (stands_in l.terms) (take l.term-index l.wanted) ≡ true
