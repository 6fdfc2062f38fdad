use Rattle.std.proofs.Common.{length, ◌-◌, ◌≡◌, ◌≤◌, ◌<◌, drop}
use Rattle.ae_codes.specs.Numbers.{no_digit, digits}
use Rattle.ae_valuereader.specs.Spans.{span_digits}
use Rattle.ae_valuereader.proofs.spans.read_digits.Given as goal

abbrev pub invariant-loop-at : goal.invariant-loop-at
invariant-loop-at l = (l.from < l.at) × (l.at ≤ length l.text)
    × (span_digits l.span (drop l.from l.text) no_digit ≡ span_digits l.span (drop l.at l.text) (digits l.value))

abbrev pub decreases-loop-at : goal.decreases-loop-at
decreases-loop-at l = length l.text - l.at
