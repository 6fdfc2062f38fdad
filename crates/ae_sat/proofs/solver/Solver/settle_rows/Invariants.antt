use Rattle.std.proofs.Common.{◌-◌, length}
use Rattle.ae_sat.specs.Inner.Steps.{Continues}
use Rattle.ae_sat.proofs.Closure.{all_formulas}
use Rattle.ae_sat.proofs.solver.Solver.settle_rows.Given as goal

abbrev pub invariant-loop-k : goal.invariant-loop-k
invariant-loop-k g l = Continues g.T.Equalities.fits g.T.Theory.assumed g.T.Theory.fits_mark g.T.Theory.in_step l.fn.self.theory l.fn.self.marks.items l.fn.self.propagation.trail l.fn.self.propagation.clauses l.fn.self.places l.fn.self.handed
    l.fn.self.expanded l.fn.lines.items l.self.theory l.self.marks.items l.self.propagation.trail l.self.propagation.clauses l.self.places l.self.handed l.self.expanded l.lines.items

abbrev pub decreases-loop-k : goal.decreases-loop-k
decreases-loop-k g l = length (all_formulas l.fn.self.propagation.clauses) - l.self.expanded
