use Rattle.std.proofs.Common.{◌-◌, ◌<◌, length, drop, [], ◌∷◌}
use Rattle.ae_syntax.specs.Grammar.{of_groups}
use Rattle.ae_syntax.specs.Inner.Machine.{items_wants, more}
use Rattle.ae_syntax.specs.Parts.{groups}
use Rattle.ae_syntax.specs.Inner.Reading.{grip}
use Rattle.ae_syntax.proofs.ParserMeetsMachine.Steps.{Reaches}
use Rattle.ae_syntax.proofs.read_groups.read_groups.Given as goal

abbrev pub invariant-loop-alloc : goal.invariant-loop-alloc
invariant-loop-alloc l = record { runs : Reaches l.tokens (items_wants of_groups l.fn.depth) [] l.fn.at (more of_groups l.fn.depth ∷ []) (groups l.found ∷ []) l.end; weak : grip (drop l.end l.tokens) < 8 }

abbrev pub decreases-loop-alloc : goal.decreases-loop-alloc
decreases-loop-alloc l = length l.tokens - l.end
