use Rattle.ae_turns.proofs.Steps.{staying_leads, going_on_leads}
use Rattle.ae_turns.proofs.laws.steps_lead_on.Goals as goal

pub returns-clause-none : goal.returns-clause-none
returns-clause-none c = staying_leads

pub returns-clause-two : goal.returns-clause-two
returns-clause-two c = going_on_leads
