use Rattle.std.proofs.Common.{◌≡◌, ◌<◌, drop}
use Rattle.ae_termreader.specs.Inner.Lookup.{hash_from}
use Rattle.ae_termreader.proofs.index.hash_of.Given as goal

abbrev pub invariant-loop-byte : goal.invariant-loop-byte
invariant-loop-byte l = (l.hash < 4294967296) × (hash_from l.hash (drop l.byte-index l.word) ≡ hash_from 0 l.word)
