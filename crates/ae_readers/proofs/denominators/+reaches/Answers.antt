use Rattle.std.proofs.Common.{sym, ap, ◌∙◌, arith}
use Rattle.ae_readers.specs.Denominators.{can_reach}
use Rattle.ae_readers.proofs.LowestTerms.{reach_none, reach_here, reach_far, reach_turn}
use Rattle.ae_readers.proofs.denominators.+reaches.Goals as goal

pub returns-then-more-eq0 : goal.returns-then-more-eq0
returns-then-more-eq0 t c = sym (ap (λ m. can_reach c.args.top m c.args.bottom) c.if-more-eq0.true ∙ reach_none c.args.top c.args.bottom)

pub returns-then-is_lowest : goal.returns-then-is_lowest
returns-then-is_lowest t c = sym (reach_here c.args.top c.args.more c.args.bottom (omega arith) (sym c.is_lowest.ensures ∙ c.if-is_lowest.true))

pub returns-then-bottom-gt-LIMIT_TENTH : goal.returns-then-bottom-gt-LIMIT_TENTH
returns-then-bottom-gt-LIMIT_TENTH t c = sym (reach_far c.args.top c.args.more c.args.bottom (omega arith) (omega arith) (sym c.is_lowest.ensures ∙ c.if-is_lowest.false))

pub loop-digit-init : goal.loop-digit-init
loop-digit-init t c = (omega arith, reach_turn c.args.top c.args.more c.args.bottom (omega arith) (sym c.is_lowest.ensures ∙ c.if-is_lowest.false))
