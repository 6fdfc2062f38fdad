use Rattle.std.proofs.Common.{◌≡◌, take}
use Rattle.ae_journal.specs.Triggers.{kept}
use Rattle.ae_trigger.specs.Inner.Choices as spec
use Rattle.ae_trigger.proofs.choice.covering.Given as goal

abbrev pub invariant-loop-term : goal.invariant-loop-term
invariant-loop-term l = l.kept ≡ kept (spec.has_all l.wanted) (take l.term-index l.terms)
