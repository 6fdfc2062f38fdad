use Rattle.std.proofs.Common.{sym, ap, ◌∙◌, arith}
use Rattle.ae_readers.specs.Denominators.{can_live}
use Rattle.ae_readers.proofs.LowestTerms.{live_here, live_none, live_zero, live_reach}
use Rattle.ae_readers.proofs.denominators.lives.Goals as goal

pub returns-then-is_lowest : goal.returns-then-is_lowest
returns-then-is_lowest c = sym (live_here c.args.top c.args.bottom (sym c.is_lowest.ensures ∙ c.if-is_lowest.true))

pub returns-then-bottom-eq0 : goal.returns-then-bottom-eq0
returns-then-bottom-eq0 c = sym (ap (can_live c.args.top) c.if-bottom-eq0.true ∙ live_none c.args.top)

pub returns-then-top-eq0 : goal.returns-then-top-eq0
returns-then-top-eq0 c = sym (live_zero c.args.top c.args.bottom c.if-top-eq0.true (sym c.is_lowest.ensures ∙ c.if-is_lowest.false))

pub returns : goal.returns
returns c = c.reaches.ensures ∙ live_reach c.args.top c.args.bottom (omega arith) (sym c.is_lowest.ensures ∙ c.if-is_lowest.false)
