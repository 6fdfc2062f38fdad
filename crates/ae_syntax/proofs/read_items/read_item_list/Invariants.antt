use Rattle.std.proofs.Common.{◌-◌, length}
use Rattle.ae_syntax.proofs.ParserMeetsMachine.Decls.{NamesSoFar}
use Rattle.ae_syntax.proofs.read_items.read_item_list.Given as goal

abbrev pub invariant-loop-kind : goal.invariant-loop-kind
invariant-loop-kind l = NamesSoFar l.kind l.separator l.tokens l.fn.at l.to l.found

abbrev pub decreases-loop-kind : goal.decreases-loop-kind
decreases-loop-kind l = length l.tokens - l.to
