use Rattle.std.proofs.Common.{◌≡◌, ◌++◌, map, drop}
use Rattle.ae_prooftext.specs.Words.{symbol_name}
use Rattle.ae_rulereader.proofs.tables.words_of.Given as goal

abbrev pub invariant-loop-n : goal.invariant-loop-n
invariant-loop-n l = l.out ++ map (symbol_name l.signature) (drop l.n-index l.numbers) ≡ map (symbol_name l.signature) l.numbers
