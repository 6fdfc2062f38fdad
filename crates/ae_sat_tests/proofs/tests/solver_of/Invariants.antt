use Rattle.std.specs.Prelude.{[]}
use Rattle.ae_sat.specs.Search.{IsAlive}
use Rattle.ae_sat_tests.proofs.tests.solver_of.Given as goal

abbrev pub invariant-loop-clause : goal.invariant-loop-clause
invariant-loop-clause g l =
    IsAlive g.T.Equalities.fits g.T.Theory.assumed g.T.Theory.fits_mark g.T.Theory.in_step l.store l.solver.theory l.solver.marks.items l.solver.propagation.trail l.solver.propagation.clauses l.solver.handed l.solver.expanded []
