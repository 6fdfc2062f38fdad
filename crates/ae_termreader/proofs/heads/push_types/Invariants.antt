use Rattle.std.proofs.Common.{◌≡◌, ◌++◌, drop}
use Rattle.std.specs.List.{flat_map}
use Rattle.ae_prooftext.specs.Words.{type_heads}
use Rattle.ae_termreader.proofs.heads.push_types.Given as goal

abbrev pub invariant-loop-n : goal.invariant-loop-n
invariant-loop-n l = l.out ++ flat_map (type_heads l.signature) (drop l.n-index l.numbers) ≡ l.fn.out ++ flat_map (type_heads l.signature) l.numbers
