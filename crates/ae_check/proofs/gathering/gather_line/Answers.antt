use Rattle.std.proofs.Common.{refl}
use Rattle.std.proofs.lemmas.Result.{on_ok_weaker}
use Rattle.ae_check.proofs.Gathered.{gathered_then}
use Rattle.ae_check.proofs.gathering.gather_line.Goals as goal

pub returns : goal.returns
returns c = on_ok_weaker c.gather_clause.result (λ h. gathered_then _ _ _ _ _ _ c.in_ok-gather_own.ensures h (λ n s. refl)) c.gather_clause.ensures
