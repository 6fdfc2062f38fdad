use Rattle.std.proofs.Common.{◌≡◌, false, take}
use Rattle.ae_decide.specs.Names.{stands_in}
use Rattle.ae_decide.proofs.names.stands_in.Given as goal

abbrev pub invariant-loop-term : goal.invariant-loop-term
invariant-loop-term l = stands_in (take l.term-index l.terms) l.wanted ≡ false
