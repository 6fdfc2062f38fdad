use Rattle.std.proofs.Common.{◌≡◌, ap, ◌∙◌}
use Rattle.std.proofs.lemmas.Result.{IfOk-weaker}
use Rattle.ae_verdicts.specs.Verdicts.{verdict_line}
use Rattle.ae_driver.specs.Inner.Endings.{IsVerdictLine}
use Rattle.ae_driver.proofs.checking.line_of.Goals as goal

pub returns : goal.returns
returns c =
    IfOk-weaker c.verdict_line.result (λ line. line.items ≡ verdict_line c.as_str.result.now c.in_ok-found.found) (λ line. IsVerdictLine c.args.problem.now c.args.goal.now c.args.part.now line.items)
    (λ line is. record { verdict = c.in_ok-found.found; is_verdict = c.in_ok-found.ensures; is_line = is ∙ ap (λ z. verdict_line z c.in_ok-found.found) c.as_str.ensures })
    c.verdict_line.ensures.line
