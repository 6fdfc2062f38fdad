use Rattle.std.proofs.Common.{◌≡◌, ◌-◌, length, drop}
use Rattle.ae_codes.specs.Codes.{wide_after}
use Rattle.ae_termreader.proofs.numerals.wide_after.Given as goal

abbrev pub invariant-loop-at : goal.invariant-loop-at
invariant-loop-at l = wide_after (drop l.from l.text) ≡ wide_after (drop l.at l.text)

abbrev pub decreases-loop-at : goal.decreases-loop-at
decreases-loop-at l = length l.text - l.at
