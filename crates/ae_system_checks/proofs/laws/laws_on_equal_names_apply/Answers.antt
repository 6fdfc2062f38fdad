use Rattle.ae_system_checks.proofs.Completed.{equated_completed}
use Rattle.ae_system_checks.proofs.Equated.{makes_true, names_are_plain, follow_plainly, follow_generally}
use Rattle.ae_system_checks.proofs.Lawful.{lawful}
use Rattle.ae_system_checks.proofs.laws.laws_on_equal_names_apply.Goals as goal

pub returns-clause-lawful : goal.returns-clause-lawful
returns-clause-lawful c = lawful

pub returns-clause-completed : goal.returns-clause-completed
returns-clause-completed c = equated_completed

pub returns-clause-makes_true : goal.returns-clause-makes_true
returns-clause-makes_true c = makes_true

pub returns-clause-plain : goal.returns-clause-plain
returns-clause-plain c = names_are_plain

pub returns-clause-follow_plainly : goal.returns-clause-follow_plainly
returns-clause-follow_plainly c = follow_plainly

pub returns-clause-follow : goal.returns-clause-follow
returns-clause-follow c = follow_generally
