use Rattle.std.proofs.Common.{◌≡◌, ◌++◌, drop}
use Rattle.ae_prooftext.specs.Inner.Pieces.{spaced_numbers}
use Rattle.ae_prooftext.proofs.bytes.put_spaced_numbers.Given as goal

abbrev pub invariant-loop-n : goal.invariant-loop-n
invariant-loop-n l = l.out.items ++ spaced_numbers (drop l.n-index l.numbers) ≡ l.fn.out.items ++ spaced_numbers l.numbers
