use Rattle.std.proofs.Common.{◌≡◌, ◌++◌, false, true, map}
use Rattle.ae_journal.specs.Triggers.{numbers_below}
use Rattle.ae_trigger.specs.Inner.Choices as spec
use Rattle.ae_trigger.proofs.choice.all_wanted.Given as goal

abbrev pub invariant-loop-distance : goal.invariant-loop-distance
invariant-loop-distance l = map spec.meant l.wanted ≡ map (λ i. (false, i)) (numbers_below l.distance)

abbrev pub invariant-loop-number : goal.invariant-loop-number
invariant-loop-number l = map spec.meant l.wanted ≡ map (λ i. (false, i)) (numbers_below l.vars) ++ map (λ i. (true, i)) (numbers_below l.number)
