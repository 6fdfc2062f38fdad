use Rattle.std.proofs.Common.{◌∙◌, sym, arith}
use Rattle.ae_explain.proofs.Marking.{one_kept_less}
use Rattle.ae_explain.proofs.marks.let_go.Goals as goal

pub overflow_sub-result : goal.overflow_sub-result
overflow_sub-result c =
    omega (arith, c.requires.count, one_kept_less c.args.trail.now.assigned c.args.marks.now c.args.level c.args.place c.requires.within c.requires.len c.requires.kept (sym c.level_at.ensures ∙ c.if-level_at-level.true))

pub returns-then-level_at-level-clause-count : goal.returns-then-level_at-level-clause-count
returns-then-level_at-level-clause-count c =
    omega (arith, c.requires.count, one_kept_less c.args.trail.now.assigned c.args.marks.now c.args.level c.args.place c.requires.within c.requires.len c.requires.kept (sym c.level_at.ensures ∙ c.if-level_at-level.true))
