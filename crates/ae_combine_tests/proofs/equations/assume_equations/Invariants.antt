use Rattle.std.specs.Prelude.{List}
use Rattle.ae_combine.specs.declared.state.Mark.{Mark}
use Rattle.ae_combine.specs.Marks.{IsMarkOf}
use Rattle.ae_journal.specs.declared.lines.Line.{Line}
use Rattle.ae_state.specs.declared.holding.Holding.{Holding}
use Rattle.ae_state.specs.Fitting.{FitsStore}
use Rattle.ae_state.specs.Stepping.{IsInStep}
use Rattle.ae_combine_tests.proofs.equations.assume_equations.Given as goal

abbrev pub invariant-loop-number : goal.invariant-loop-number
invariant-loop-number l = FitsStore l.state l.store × ((js : List Line) → IsInStep l.fn.state js → IsInStep l.state js) × ((m : Mark) (then : Holding) → IsMarkOf l.fn.state m then → IsMarkOf l.state m then)
