use Rattle.ae_driver.proofs.OneProblem.{untyped_stands}
use Rattle.ae_driver.proofs.texts.without_typing.Goals as goal

pub returns-in_default : goal.returns-in_default
returns-in_default c = untyped_stands c.args.text.now c.args.file c.args.fault c.in_default.not-Memory c.requires.is_file c.requires.is_fault
