use Rattle.std.proofs.Common.{◌≡◌, take, map, []}
use Rattle.ae_journal.specs.Triggers.{adding}
use Rattle.ae_trigger.specs.Inner.Choices as spec
use Rattle.ae_trigger.proofs.choice.adding.Given as goal

abbrev pub invariant-loop-term : goal.invariant-loop-term
invariant-loop-term l = l.taken ≡ adding (map spec.meant l.wanted) [] (take l.term-index l.terms)
