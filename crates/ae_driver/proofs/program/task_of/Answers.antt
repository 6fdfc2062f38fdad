use Rattle.ae_driver.proofs.Checked.{asks_nothing}
use Rattle.ae_driver.proofs.program.task_of.Goals as goal

pub returns-in-Prove : goal.returns-in-Prove
returns-in-Prove c = (c.in-Ok.ensures.stated, c.in-Prove.is)

pub returns-in-Check : goal.returns-in-Check
returns-in-Check c = record { options = c.in-Ok.stated; stated = c.in-Ok.ensures.stated; is = c.in-Check.is }

pub returns-in-Demo : goal.returns-in-Demo
returns-in-Demo c = (c.in-Ok.ensures.stated, c.in-Demo.is)

pub returns-in-Err-Usage : goal.returns-in-Err-Usage
returns-in-Err-Usage c = asks_nothing _ (c.in-Err-Usage.ensures.usage c.in-Err-Usage.field-0-is)
