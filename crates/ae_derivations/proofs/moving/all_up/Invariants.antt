use Rattle.std.proofs.Common.{◌≡◌, ◌+◌, map, take}
use Rattle.ae_derivations.proofs.moving.all_up.Given as goal

abbrev pub invariant-loop-number : goal.invariant-loop-number
invariant-loop-number l = l.sums ≡ map (λ k. l.by + k) (take l.number-index l.numbers)
