use Rattle.std.proofs.Common.{◌≡◌, take}
use Rattle.ae_trim.proofs.copies.copy_numbers.Given as goal

abbrev pub invariant-loop-number : goal.invariant-loop-number
invariant-loop-number l = l.copies ≡ take l.number-index l.numbers
