use Rattle.ae_driver.specs.Problems.{by_syntax}
use Rattle.ae_syntax.proofs.Places.{fault_within}
use Rattle.ae_driver.proofs.texts.without_file.Goals as goal

pub returns-in_default : goal.returns-in_default
returns-in_default c = (
  by_syntax c.args.tokens.now c.args.fault c.requires.0 (c.requires.1 c.in_default.not-Memory),
  fault_within c.args.text.now c.args.tokens.now c.args.fault c.requires.0 (c.requires.1 c.in_default.not-Memory),
)
