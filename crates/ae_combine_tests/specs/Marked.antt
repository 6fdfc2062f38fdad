-- Marks of states that no line was noted for.
use Rattle.std.specs.Prelude.{[]}
use Rattle.ae_combine.specs.declared.state.Mark.{Mark}
use Rattle.ae_combine.specs.Marks.{IsMarkOf}
use Rattle.ae_state.specs.declared.holding.Holding.{Holding}
use Rattle.ae_state.specs.Stepping.{IsInStep}

-- the mark fits a state, and stands for one with which the journal of no line is in step
abbrev pub IsMarkedAtFirst : Holding → Mark → Type 0
IsMarkedAtFirst o m = (then : Holding) × IsMarkOf o m then × IsInStep then []
