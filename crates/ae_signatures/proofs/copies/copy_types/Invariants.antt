use Rattle.std.proofs.Common.{◌≡◌, take}
use Rattle.ae_signatures.proofs.copies.copy_types.Given as goal

abbrev pub invariant-loop-entry : goal.invariant-loop-entry
invariant-loop-entry l = l.copies ≡ take l.entry-index l.entries
