use Rattle.std.proofs.Common.{◌≡◌, map, ◌++◌}
use Rattle.ae_core.specs.declared.terms.Term.{Bound}
use Rattle.ae_journal.specs.Triggers.{numbers_below}
use Rattle.ae_matches.proofs.candidates.with_variables.Given as goal

abbrev pub invariant-loop-variable : goal.invariant-loop-variable
invariant-loop-variable l = l.all ≡ l.terms ++ map Bound (numbers_below l.variable)
