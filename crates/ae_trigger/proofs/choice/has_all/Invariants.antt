use Rattle.std.proofs.Common.{◌≡◌, take, true}
use Rattle.ae_trigger.specs.Inner.Choices as spec
use Rattle.ae_trigger.proofs.choice.has_all.Given as goal

abbrev pub invariant-loop-one : goal.invariant-loop-one
invariant-loop-one l = spec.has_all (take l.one-index l.wanted) l.term ≡ true
