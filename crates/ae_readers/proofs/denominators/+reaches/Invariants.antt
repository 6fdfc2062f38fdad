use Rattle.std.proofs.Common.{◌≡◌, ◌≤◌, ◌+◌, ◌*◌, ◌-◌}
use Rattle.ae_codes.specs.Fractions.{some_below}
use Rattle.ae_readers.specs.Denominators.{can_reach}
use Rattle.ae_readers.proofs.denominators.+reaches.Given as goal

abbrev pub decreases-reaches : goal.decreases-reaches
decreases-reaches l = l.more

abbrev pub invariant-loop-digit : goal.invariant-loop-digit
invariant-loop-digit l = (l.digit ≤ 10) × (can_reach l.fn.top l.fn.more l.fn.bottom ≡ some_below l.digit (λ x. can_reach l.fn.top (l.fn.more - 1) (l.fn.bottom * 10 + x)))

abbrev pub decreases-loop-digit : goal.decreases-loop-digit
decreases-loop-digit l = l.digit
