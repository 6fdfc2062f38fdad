use Rattle.std.proofs.Common.{arith, sym, ◌∙◌}
use Rattle.ae_readers.proofs.LowestTerms.{far_stops, live_within}
use Rattle.ae_readers.proofs.denominators.longer.Goals as goal

pub returns-then-value-gt-LIMIT_TENTH-clause-none : goal.returns-then-value-gt-LIMIT_TENTH-clause-none
returns-then-value-gt-LIMIT_TENTH-clause-none c = far_stops c.args.top c.args.value c.args.byte (omega arith)

pub returns-then-lives-clause-within : goal.returns-then-lives-clause-within
returns-then-lives-clause-within c = live_within c.args.top _ (sym c.lives.ensures ∙ c.if-lives.true)
