use Rattle.std.proofs.Common.{◌≡◌, take, false}
use Rattle.std.specs.List.{list_any}
use Rattle.ae_trigger.specs.Inner.Choices as spec
use Rattle.ae_trigger.proofs.choice.is_had.Given as goal

abbrev pub invariant-loop-term : goal.invariant-loop-term
invariant-loop-term l = list_any (spec.occurs_in l.wanted) (take l.term-index l.terms) ≡ false
