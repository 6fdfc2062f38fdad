use Rattle.std.proofs.Common.{length, ◌-◌, ◌≡◌, ◌≤◌, ◌<◌, drop}
use Rattle.ae_codes.specs.Numbers.{no_digit, digits}
use Rattle.ae_readers.specs.Denominators.{below_digits}
use Rattle.ae_readers.specs.Readers.{close_of, greatest}
use Rattle.ae_readers.proofs.denominators.read_to_end.Given as goal

abbrev pub invariant-loop-at : goal.invariant-loop-at
invariant-loop-at l = (l.from < l.at) × (l.at ≤ length l.text) × (l.value ≤ greatest)
    × (below_digits l.top (close_of l.closing) (drop l.from l.text) no_digit ≡ below_digits l.top (close_of l.closing) (drop l.at l.text) (digits l.value))

abbrev pub decreases-loop-at : goal.decreases-loop-at
decreases-loop-at l = length l.text - l.at
