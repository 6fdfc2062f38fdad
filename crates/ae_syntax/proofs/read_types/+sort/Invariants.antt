use Rattle.std.proofs.Common.{[], ◌∷◌, ◌-◌, ◌*◌, ◌+◌, length}
use Rattle.ae_syntax.specs.Grammar.{of_types}
use Rattle.ae_syntax.specs.Inner.Machine.{more}
use Rattle.ae_syntax.specs.Inner.ReadingDecls.{SortsGoOn}
use Rattle.ae_syntax.proofs.read_types.+sort.Given as goal

abbrev pub decreases-bracket_sorts : goal.decreases-bracket_sorts
decreases-bracket_sorts l = (length l.tokens.now - l.at) * 4

abbrev pub decreases-read_type : goal.decreases-read_type
decreases-read_type l = (length l.tokens.now - l.at) * 4 + 1

abbrev pub decreases-more_types : goal.decreases-more_types
decreases-more_types l = (length l.tokens.now - l.at) * 4 + 2

abbrev pub invariant-more_types-loop-alloc : goal.invariant-more_types-loop-alloc
invariant-more_types-loop-alloc l = SortsGoOn l.fn.before l.found l.depth l.tokens l.fn.at l.at (more of_types l.depth ∷ [])

abbrev pub decreases-more_types-loop-alloc : goal.decreases-more_types-loop-alloc
decreases-more_types-loop-alloc l = length l.tokens - l.at
