use Rattle.ae_numeric.proofs.RuleLaws.{numbers_read}
use Rattle.ae_numeric.proofs.forms.divisor_rule.Goals as goal

pub fraction-requires-clause-bottom : goal.fraction-requires-clause-bottom
fraction-requires-clause-bottom c = (numbers_read c.args.divisor.now c.in-Num.top c.in-Num.bottom c.in-Num.real c.in-Num.is c.requires.sorted).positive

pub fraction-requires-clause-top_within : goal.fraction-requires-clause-top_within
fraction-requires-clause-top_within c = (numbers_read c.args.divisor.now c.in-Num.top c.in-Num.bottom c.in-Num.real c.in-Num.is c.requires.sorted).top_within

pub fraction-requires-clause-bottom_within : goal.fraction-requires-clause-bottom_within
fraction-requires-clause-bottom_within c = (numbers_read c.args.divisor.now c.in-Num.top c.in-Num.bottom c.in-Num.real c.in-Num.is c.requires.sorted).bottom_within
