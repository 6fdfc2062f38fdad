use Rattle.ae_driver.specs.Problems.{by_lexis}
use Rattle.ae_syntax.proofs.Places.{lex_fault_within}
use Rattle.ae_driver.proofs.texts.without_tokens.Goals as goal

pub returns-in_default : goal.returns-in_default
returns-in_default c = (
  by_lexis c.args.fault (c.requires c.in_default.not-Memory),
  lex_fault_within c.args.text.now c.args.fault (c.requires c.in_default.not-Memory),
)
