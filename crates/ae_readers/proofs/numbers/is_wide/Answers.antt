use Rattle.std.proofs.Common.{rules, ◌∙◌, sym, arith}
use Rattle.ae_readers.proofs.Wide.{over}
use Rattle.ae_readers.proofs.numbers.is_wide.Goals as goal

pub returns-then-sum-gt-LIMIT_TENTH : goal.returns-then-sum-gt-LIMIT_TENTH
returns-then-sum-gt-LIMIT_TENTH c = sym (c.loop-at.invariant.2 ∙ over c.args.text.now c.loop-at.at c.loop-at.sum (search (rules, arith)) (search rules) (search (rules, arith)))
