use Rattle.std.proofs.Common.{take}
use Rattle.ae_ineq.specs.Inner.Derived.{AreRowsOf}
use Rattle.ae_ineq.proofs.solving.gather.Given as goal

abbrev pub invariant-loop-inequality : goal.invariant-loop-inequality
invariant-loop-inequality l = record {
  gathered : AreRowsOf l.inequalities (take l.inequality-index l.inequalities) l.rows;
}
