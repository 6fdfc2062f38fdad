use Rattle.std.specs.List.{Contains}
use Rattle.std.proofs.Common.{subst}
use Rattle.ae_core.specs.declared.formulas.Lit.{Lit}
use Rattle.ae_rules.specs.Clauses.{opposite}
use Rattle.ae_sure_literals.proofs.Using.{row_apart, row_used}
use Rattle.ae_sure_literals.proofs.closing.use_defining.Goals as goal

pub returns-then-not-has_opposite : goal.returns-then-not-has_opposite
returns-then-not-has_opposite c =
    row_apart c.args.trail.now.assigned c.args.place c.args.number c.args.clause.now c.requires.states c.args.flags.now
    (subst (λ (w : Lit). Contains c.args.clause.now (opposite w) → ⊥) c.lit_at.ensures c.if-not-has_opposite.ensures)

pub returns : goal.returns
returns c =
    row_used c.args.trail.now.assigned c.args.place c.args.number c.args.clause.now c.requires.states c.args.flags.now c.use_clause.new.flags c.use_clause.result
    (subst (λ (w : Lit). Contains c.args.clause.now (opposite w)) c.lit_at.ensures c.if-not-has_opposite.ensures) c.use_clause.ensures
