use Rattle.std.proofs.Common.{[], take}
use Rattle.ae_rules.specs.Derivations.{AreAllowed}
use Rattle.ae_calc.specs.Reached.{Fit, ProofReaches}
use Rattle.ae_check.specs.Inner.Knowing.{IsKnown}
use Rattle.ae_check.proofs.verdict.first_refused.Given as goal

abbrev pub invariant-loop-i : goal.invariant-loop-i
invariant-loop-i l = record {
  allowed : AreAllowed l.problem l.goal [] (take l.i l.lines);
  within : Fit (ProofReaches l.problem l.goal [] (take l.i l.lines));
  known : IsKnown l.problem l.goal (take l.i l.lines) l.known;
}
