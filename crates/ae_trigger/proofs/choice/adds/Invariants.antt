use Rattle.std.proofs.Common.{◌≡◌, take, false}
use Rattle.ae_trigger.specs.Inner.Choices as spec
use Rattle.ae_trigger.proofs.choice.adds.Given as goal

abbrev pub invariant-loop-one : goal.invariant-loop-one
invariant-loop-one l = spec.adds (take l.one-index l.wanted) l.taken l.term ≡ false
