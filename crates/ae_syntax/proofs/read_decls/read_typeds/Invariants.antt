use Rattle.std.proofs.Common.{◌-◌, length}
use Rattle.ae_syntax.proofs.ParserMeetsMachine.Decls.{TypedsSoFar}
use Rattle.ae_syntax.proofs.read_decls.read_typeds.Given as goal

abbrev pub invariant-loop-alloc : goal.invariant-loop-alloc
invariant-loop-alloc l = TypedsSoFar l.separator l.tokens l.at l.to l.found

abbrev pub decreases-loop-alloc : goal.decreases-loop-alloc
decreases-loop-alloc l = length l.tokens - l.to
