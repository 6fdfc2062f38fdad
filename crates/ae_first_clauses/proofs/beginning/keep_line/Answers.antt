use Rattle.std.proofs.lemmas.Result.{on_ok_weaker}
use Rattle.ae_first_clauses.proofs.beginning.keep_line.Goals as goal

pub returns : goal.returns
returns c = on_ok_weaker c.push.result (λ h. (c.in_ok-push_line.ensures, h)) c.push.ensures.ok
