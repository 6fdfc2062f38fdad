use Rattle.std.proofs.Common.{◌≡◌, map, take}
use Rattle.ae_typing.proofs.patterns.variable_sorts.Given as goal

abbrev pub invariant-loop-bound : goal.invariant-loop-bound
invariant-loop-bound l = l.all ≡ map (λ b. b.sort) (take l.bound-index l.bounds)
