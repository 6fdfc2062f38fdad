use Rattle.ae_opening_steps.proofs.Readiness.{ready}
use Rattle.ae_opening_steps.proofs.Steps.{step}
use Rattle.ae_opening_steps.proofs.laws.opened_blocks_may_come.Goals as goal

pub returns-clause-ready : goal.returns-clause-ready
returns-clause-ready c = ready

pub returns-clause-step : goal.returns-clause-step
returns-clause-step c = λ p g n m s s2 old new f l d lines js signature o below own ok named formula. step p g n m s s2 old new f l d lines js signature o below own ok named formula
