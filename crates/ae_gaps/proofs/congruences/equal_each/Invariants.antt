use Rattle.ae_gaps.proofs.ArgumentSteps.{IsEqualling}
use Rattle.ae_gaps.proofs.congruences.equal_each.Given as goal

abbrev pub invariant-loop-i : goal.invariant-loop-i
invariant-loop-i l = IsEqualling l.store l.fn.justs l.justs l.values l.left l.right l.steps l.i
