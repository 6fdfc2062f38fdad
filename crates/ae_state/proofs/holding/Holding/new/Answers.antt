use Rattle.std.proofs.Common.{sym, ap, ◌∙◌}
use Rattle.ae_conflicts.specs.Saying.{tagged}
use Rattle.ae_state.proofs.Beginning.{nothing_right, nothing_fits, nothing_stepping}
use Rattle.ae_state.proofs.holding.Holding.new.Goals as goal

pub returns-clause-signature : goal.returns-clause-signature
returns-clause-signature c = c.empty.ensures.signature ∙ c.in_ok-copy.ensures

pub returns-clause-assumed : goal.returns-clause-assumed
returns-clause-assumed c = ap tagged (c.empty.ensures.empty).assumed

pub returns-clause-right : goal.returns-clause-right
returns-clause-right c = nothing_right c.empty.result c.empty.ensures.empty

pub returns-clause-fits : goal.returns-clause-fits
returns-clause-fits c s e = nothing_fits c.empty.result c.empty.ensures.empty s (e ∙ sym (c.empty.ensures.signature ∙ c.in_ok-copy.ensures))

pub returns-clause-step : goal.returns-clause-step
returns-clause-step c = nothing_stepping c.empty.result c.empty.ensures.empty

pub returns-clause-names : goal.returns-clause-names
returns-clause-names c = (c.empty.ensures.empty).taken

pub returns-clause-rules : goal.returns-clause-rules
returns-clause-rules c = (c.empty.ensures.empty).rules

pub returns-clause-waiting : goal.returns-clause-waiting
returns-clause-waiting c = (c.empty.ensures.empty).waiting
