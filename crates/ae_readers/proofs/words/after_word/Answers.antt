use Rattle.std.proofs.Common.{arith, ◌∙◌, sym, ◌≤◌, ◌+◌, length}
use Rattle.ae_readers.proofs.Commons.{begins_by, begins_not, behind_fits}
use Rattle.ae_readers.proofs.words.after_word.Goals as goal

pub overflow_add-result : goal.overflow_add-result
overflow_add-result c =
    let h : c.args.at + length c.args.word.now ≤ length c.args.text.now = behind_fits c.args.text.now c.args.word.now c.args.at c.requires (sym c.common.ensures ∙ c.if-common-word.true) in
    omega arith

pub returns-then-common-word-clause-stands : goal.returns-then-common-word-clause-stands
returns-then-common-word-clause-stands c = begins_by _ _ (sym c.common.ensures ∙ c.if-common-word.true)

pub returns-then-common-word-clause-within : goal.returns-then-common-word-clause-within
returns-then-common-word-clause-within c = behind_fits c.args.text.now c.args.word.now c.args.at c.requires (sym c.common.ensures ∙ c.if-common-word.true)

pub returns-else-common-word-clause-lacks : goal.returns-else-common-word-clause-lacks
returns-else-common-word-clause-lacks c = begins_not _ _ (λ e. c.if-common-word.false (c.common.ensures ∙ e))
