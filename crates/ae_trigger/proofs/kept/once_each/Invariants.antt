use Rattle.std.proofs.Common.{◌≡◌, take, []}
use Rattle.ae_journal.specs.Triggers.{once_each}
use Rattle.ae_trigger.proofs.kept.once_each.Given as goal

abbrev pub invariant-loop-term : goal.invariant-loop-term
invariant-loop-term l = l.kept ≡ once_each [] (take l.term-index l.terms)
