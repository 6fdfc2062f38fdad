use Rattle.std.proofs.Common.{◌≡◌, ◌++◌, drop, not}
use Rattle.std.specs.List.{filter}
use Rattle.ae_prooftext.specs.Words.{has_variables}
use Rattle.ae_termreader.proofs.heads.push_lone_ones.Given as goal

abbrev pub invariant-loop-n : goal.invariant-loop-n
invariant-loop-n l = l.out ++ filter (λ n. not (has_variables l.signature n)) (drop l.n-index l.numbers) ≡ l.fn.out ++ filter (λ n. not (has_variables l.signature n)) l.numbers
