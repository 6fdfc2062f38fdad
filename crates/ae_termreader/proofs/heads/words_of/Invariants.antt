use Rattle.std.proofs.Common.{◌≡◌, ◌++◌, map, drop}
use Rattle.ae_prooftext.specs.Words.{head_word}
use Rattle.ae_termreader.proofs.heads.words_of.Given as goal

abbrev pub invariant-loop-head : goal.invariant-loop-head
invariant-loop-head l = l.out ++ map (head_word l.signature) (drop l.head-index l.heads) ≡ map (head_word l.signature) l.heads
