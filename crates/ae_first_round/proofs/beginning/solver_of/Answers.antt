use Rattle.std.proofs.Common.{refl, []}
use Rattle.ae_first_round.proofs.beginning.solver_of.Goals as goal

pub returns-clause-alive : goal.returns-clause-alive
returns-clause-alive c s same named = c.started.ensures.alive s [] (c.in_ok-theory.ensures.fits s same) c.in_ok-theory.ensures.step refl named
