use Rattle.std.proofs.Common.{refl}
use Rattle.std.proofs.lemmas.Result.{on_ok_weaker}
use Rattle.ae_check.proofs.Gathered.{gathered_then}
use Rattle.ae_check.proofs.gathering.gather_sides.Goals as goal

pub returns : goal.returns
returns c = on_ok_weaker c.gather_term-2.result (λ h. gathered_then _ _ _ _ _ _ c.in_ok-gather_term.ensures h (λ n s. refl)) c.gather_term-2.ensures
