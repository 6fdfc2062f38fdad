use Rattle.ae_filled_trails.proofs.Filling.{filled}
use Rattle.ae_filled_trails.proofs.laws.open_trails_are_filled.Goals as goal

pub returns-clause-filled : goal.returns-clause-filled
returns-clause-filled c p g bound o between is_open served ordered x told = filled p g bound o between is_open served x told ordered

pub returns-clause-inequalities : goal.returns-clause-inequalities
returns-clause-inequalities c p g bound o between is_open served ordered x told =
    c.what_may_stand_is_true.ensures.inequalities x o.journal.lines o.solver.propagation.trail o.solver.propagation.clauses (filled p g bound o between is_open served x told ordered)
