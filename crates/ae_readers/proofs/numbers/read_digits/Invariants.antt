use Rattle.std.proofs.Common.{length, ◌-◌, ◌≡◌, ◌≤◌, ◌<◌, drop}
use Rattle.ae_codes.specs.Numbers.{read_digits, no_digit, digits}
use Rattle.ae_readers.specs.Readers.{closes, greatest_size}
use Rattle.ae_readers.proofs.numbers.read_digits.Given as goal

abbrev pub invariant-loop-at : goal.invariant-loop-at
invariant-loop-at l = (l.from < l.at) × (l.at ≤ length l.text)
    × (read_digits 0 greatest_size (closes l.closing) (drop l.from l.text) no_digit ≡ read_digits 0 greatest_size (closes l.closing) (drop l.at l.text) (digits l.value))

abbrev pub decreases-loop-at : goal.decreases-loop-at
decreases-loop-at l = length l.text - l.at
