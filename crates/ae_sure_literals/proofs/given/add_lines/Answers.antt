use Rattle.std.specs.Prelude.{List}
use Rattle.std.proofs.Common.{◌++◌, ◌∙◌, append-nil, ap, arith, sym}
use Rattle.ae_rules.specs.Clauses.{Clause}
use Rattle.ae_sure_literals.proofs.GivenClauses.{more_lines}
use Rattle.ae_sure_literals.proofs.given.add_lines.Goals as goal

pub loop-line-init : goal.loop-line-init
loop-line-init c = sym (append-nil c.args.given.now)

pub loop-line-preserved : goal.loop-line-preserved
loop-line-preserved c =
    c.in_ok-add_clause.ensures ∙ ap (λ (w : List Clause). c.loop-line.given ++ w) c.in_ok-clause.ensures
    ∙ more_lines c.args.problem.now c.args.goal c.args.lines.now c.loop-line.line-index c.line-item.result c.args.given.now c.loop-line.given (omega arith) c.line-item.is c.loop-line.invariant
