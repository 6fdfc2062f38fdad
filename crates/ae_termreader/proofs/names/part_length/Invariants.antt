use Rattle.std.proofs.Common.{◌≡◌, ◌+◌, ◌-◌, length, drop}
use Rattle.ae_readers.specs.Readers.{closes, word_part}
use Rattle.ae_termreader.proofs.names.part_length.Given as goal

abbrev pub invariant-loop-end : goal.invariant-loop-end
invariant-loop-end l = (l.end ≡ l.at + l.count) × (length (word_part (closes l.closing) (drop l.at l.text)) ≡ l.count + length (word_part (closes l.closing) (drop l.end l.text)))

abbrev pub decreases-loop-end : goal.decreases-loop-end
decreases-loop-end l = length l.text - l.end
