use Rattle.std.proofs.Common.{below_more}
use Rattle.ae_sat.proofs.solver.Solver.open_clause.Goals as goal

pub loop-k-preserved : goal.loop-k-preserved
loop-k-preserved g c = below_more _ _ c.loop-k.invariant c.if-not-is_satisfied.ensures
