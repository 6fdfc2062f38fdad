use Rattle.std.specs.List.{All}
use Rattle.ae_pmap.specs.Forest.{IsRoot}
use Rattle.ae_pmap_tests.proofs.tests.go_back.Given as goal

abbrev pub invariant-loop-turn : goal.invariant-loop-turn
invariant-loop-turn g l = All (λ m. IsRoot l.map m.version) l.moments.items

abbrev pub invariant-loop-turn-2 : goal.invariant-loop-turn-2
invariant-loop-turn-2 g l = All (λ m. IsRoot l.map m.version) l.moments.items
