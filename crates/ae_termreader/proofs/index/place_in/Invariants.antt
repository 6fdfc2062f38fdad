use Rattle.std.proofs.Common.{◌≡◌, drop}
use Rattle.ae_termreader.specs.Inner.Lookup.{first_of}
use Rattle.ae_termreader.proofs.index.place_in.Given as goal

abbrev pub invariant-loop-place : goal.invariant-loop-place
invariant-loop-place l = first_of l.words l.bucket l.word ≡ first_of l.words (drop l.place-index l.bucket) l.word
