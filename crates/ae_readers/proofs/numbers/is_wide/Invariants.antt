use Rattle.std.proofs.Common.{length, ◌-◌, ◌≡◌, ◌≤◌, drop, nat_lt}
use Rattle.ae_codes.specs.Codes.{wide_digits, value_from, limit}
use Rattle.ae_readers.proofs.numbers.is_wide.Given as goal

abbrev pub invariant-loop-at : goal.invariant-loop-at
invariant-loop-at l = (l.at ≤ length l.text) × (l.sum ≤ limit) × (wide_digits (drop l.from l.text) ≡ nat_lt limit (value_from l.sum (drop l.at l.text)))

abbrev pub decreases-loop-at : goal.decreases-loop-at
decreases-loop-at l = length l.text - l.at
