use Rattle.std.proofs.Common.{◌≡◌, take}
use Rattle.ae_core.proofs.copies.copy_clause.Given as goal

abbrev pub invariant-loop-lit : goal.invariant-loop-lit
invariant-loop-lit l = l.copies ≡ take l.lit-index l.clause
