use Rattle.std.proofs.Common.{◌≡◌, false, take}
use Rattle.ae_journal.specs.Triggers.{is_among}
use Rattle.ae_trigger.proofs.occurrences.is_among.Given as goal

abbrev pub invariant-loop-other : goal.invariant-loop-other
invariant-loop-other l = is_among (take l.other-index l.terms) l.term ≡ false
