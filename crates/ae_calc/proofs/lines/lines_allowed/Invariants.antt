use Rattle.std.proofs.Common.{List, [], take, drop}
use Rattle.ae_num.specs.Forms.{Step}
use Rattle.ae_rules.specs.Lines.{AllAllowed, fact_ok}
use Rattle.ae_calc.specs.Reached.{Fit, BlockReaches}
use Rattle.ae_calc.proofs.lines.lines_allowed.Given as goal

abbrev pub invariant-loop-i : goal.invariant-loop-i
invariant-loop-i l = record {
  all : AllAllowed l.signature (fact_ok l.signature) l.hyps [] (take l.i l.lines);
  within : Fit (BlockReaches l.signature l.hyps l.ending (take l.i l.lines) (drop l.i l.lines)) → Fit (BlockReaches l.signature l.hyps l.ending [] l.lines);
  reached : (ss : List Step) → BlockReaches l.signature l.hyps l.ending (take l.i l.lines) (drop l.i l.lines) ss → BlockReaches l.signature l.hyps l.ending [] l.lines ss;
}
