use Rattle.ae_report.specs.declared.refusal.Refusal.TheVariants as refusal
use Rattle.ae_driver.specs.declared.reasons.Reason.TheVariants.{Plain}
use Rattle.ae_driver.specs.Checking.{no_separator}
use Rattle.ae_driver.proofs.Checked.{input_refusal_ends}
use Rattle.ae_driver.proofs.checking.check_input.Goals as goal

pub returns-in-None-clause-ends : goal.returns-in-None-clause-ends
returns-in-None-clause-ends g c = input_refusal_ends c.args.input.now (Plain refusal.NoSeparator) _ _ c.refuse.result (no_separator c.in-None.ensures.none) c.refuse.ensures.ends
