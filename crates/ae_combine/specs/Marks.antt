-- Marks of a state.
use Rattle.ae_state.specs.declared.holding.Holding.{Holding}
use Rattle.ae_state.specs.Marks.{FitsMark}
use Rattle.ae_combine.specs.Known.{IsKnown}
use Rattle.ae_combine.specs.declared.state.Mark.{Mark}

-- the mark fits what is held, and stands for what was held then and what was known of it
abbrev pub IsMarkOf : Holding → Mark → Holding → Type 0
IsMarkOf o m then = FitsMark o m.held then × IsKnown m.complete_for then
