use Rattle.std.proofs.Common.{◌≡◌, drop}
use Rattle.ae_readers.specs.Readers.{closes, no_end}
use Rattle.ae_readers.proofs.names.has_no_end.Given as goal

abbrev pub invariant-loop-byte : goal.invariant-loop-byte
invariant-loop-byte l = no_end (closes l.closing) l.word ≡ no_end (closes l.closing) (drop l.byte-index l.word)
