use Rattle.std.proofs.Common.{IsTrue}
use Rattle.ae_calc.proofs.LineReach.{without_clause}
use Rattle.ae_calc.proofs.clause_lines.allowed.Goals as goal

pub returns-then-not-branch-clause-fits : goal.returns-then-not-branch-clause-fits
returns-then-not-branch-clause-fits c =
    without_clause c.args.problem.now c.args.goal c.args.line.now
    (λ h. let t : IsTrue c.in_ok-has_conclusion.field-0 = c.in_ok-has_conclusion.ensures.1 h in cc)
