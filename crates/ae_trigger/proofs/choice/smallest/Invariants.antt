use Rattle.std.proofs.Common.{◌≡◌, take}
use Rattle.ae_journal.specs.Triggers.{kept}
use Rattle.ae_trigger.specs.Inner.Choices as spec
use Rattle.ae_trigger.proofs.choice.smallest.Given as goal

abbrev pub invariant-loop-term : goal.invariant-loop-term
invariant-loop-term l = l.kept ≡ kept (spec.is_smallest l.terms) (take l.term-index l.terms)
