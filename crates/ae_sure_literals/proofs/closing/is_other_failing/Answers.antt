use Rattle.std.proofs.Common.{◌∙◌, sym}
use Rattle.ae_base.proofs.Tests.{true_false}
use Rattle.ae_sure_literals.proofs.Using.{other_by}
use Rattle.ae_sure_literals.proofs.closing.is_other_failing.Goals as goal

pub returns-then-same_lit : goal.returns-then-same_lit
returns-then-same_lit c = λ d. absurd (d (c.same_lit.ensures.0 c.if-same_lit.true))

pub returns : goal.returns
returns c =
    other_by c.args.trail.now.assigned c.args.flags.now c.args.own.now c.args.lit.now c.fails_surely.result (λ e. true_false (sym (c.same_lit.ensures.1 e) ∙ c.if-same_lit.false))
    c.fails_surely.ensures
