use Rattle.std.proofs.Common.{◌≡◌, false, take}
use Rattle.std.specs.List.{list_any}
use Rattle.ae_matches.specs.Steps.{fresh_has}
use Rattle.ae_matches_tests.proofs.closed.+constant_has.Given as goal

abbrev pub invariant-constants_have-loop-term : goal.invariant-constants_have-loop-term
invariant-constants_have-loop-term l = list_any (fresh_has l.number) (take l.term-index l.terms) ≡ false
