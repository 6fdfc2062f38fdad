use Rattle.std.proofs.Common.{length, ◌-◌, ◌≡◌, ◌≤◌, ◌<◌, drop}
use Rattle.ae_codes.specs.Numbers.{no_digit, digits}
use Rattle.ae_readers.specs.Readers.{greatest, low_of}
use Rattle.ae_valuereader.specs.Forms.{const_digits}
use Rattle.ae_valuereader.proofs.forms.read_constant_digits.Given as goal

abbrev pub invariant-loop-at : goal.invariant-loop-at
invariant-loop-at l = (l.from < l.at) × (l.at ≤ length l.text) × (low_of l.negated ≤ l.value) × (l.value ≤ greatest)
    × (const_digits l.den l.negated (drop l.from l.text) no_digit ≡ const_digits l.den l.negated (drop l.at l.text) (digits l.value))

abbrev pub decreases-loop-at : goal.decreases-loop-at
decreases-loop-at l = length l.text - l.at
