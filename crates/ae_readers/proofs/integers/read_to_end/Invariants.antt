use Rattle.std.proofs.Common.{length, ◌-◌, ◌≡◌, ◌≤◌, ◌<◌, drop}
use Rattle.ae_codes.specs.Numbers.{read_digits, no_digit, digits}
use Rattle.ae_readers.specs.Readers.{close_of, greatest, low_of, or_stroke}
use Rattle.ae_readers.proofs.integers.read_to_end.Given as goal

abbrev pub invariant-loop-at : goal.invariant-loop-at
invariant-loop-at l = (l.from < l.at) × (l.at ≤ length l.text) × (low_of l.signed ≤ l.value) × (l.value ≤ greatest)
    × (read_digits (low_of l.signed) greatest (or_stroke l.stroke (close_of l.closing)) (drop l.from l.text) no_digit ≡ read_digits (low_of l.signed) greatest (or_stroke l.stroke (close_of l.closing)) (drop l.at l.text) (digits l.value))

abbrev pub decreases-loop-at : goal.decreases-loop-at
decreases-loop-at l = length l.text - l.at
