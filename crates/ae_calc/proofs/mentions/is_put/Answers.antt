use Rattle.std.proofs.Common.{◌∙◌, sym}
use Rattle.ae_calc.proofs.Mentioning.{put_early, put_later, put_beyond, put_behind}
use Rattle.ae_calc.proofs.mentions.is_put.Goals as goal

pub returns-then-offset-gap : goal.returns-then-offset-gap
returns-then-offset-gap c = sym (put_early c.args.first c.args.sorts.now c.args.base c.args.offset c.args.sort.now c.if-base-first.true c.if-offset-gap.true)

pub returns-then-base-first : goal.returns-then-base-first
returns-then-base-first c = c.has_sort.ensures ∙ sym (put_later c.args.first c.args.sorts.now c.args.base c.args.offset c.args.sort.now c.if-base-first.true c.if-offset-gap.false)

pub returns-then-gap-sorts : goal.returns-then-gap-sorts
returns-then-gap-sorts c = sym (put_beyond c.args.first c.args.sorts.now c.args.base c.args.offset c.args.sort.now c.if-base-first.false c.if-gap-sorts.true)

pub returns : goal.returns
returns c = c.has_sort-2.ensures ∙ sym (put_behind c.args.first c.args.sorts.now c.args.base c.args.offset c.args.sort.now c.if-base-first.false)
