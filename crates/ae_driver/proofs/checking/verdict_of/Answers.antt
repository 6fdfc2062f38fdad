use Rattle.std.proofs.Common.{sym, subst}
use Rattle.std.specs.Prelude.{IfOk}
use Rattle.ae_verdicts.specs.Verdicts.{IsVerdict}
use Rattle.ae_printed.specs.ReadBack.{proof_in}
use Rattle.ae_driver.proofs.checking.verdict_of.Goals as goal

pub returns-in-Valid : goal.returns-in-Valid
returns-in-Valid c = subst (λ q. IfOk c.verdict.result (IsVerdict c.args.problem.now c.args.goal (proof_in q))) (sym c.in-Valid.is) c.verdict.ensures.exact
