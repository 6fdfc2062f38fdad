use Rattle.std.proofs.Common.{◌∙◌, ◌++◌, Option, ap, sym, append-nil}
use Rattle.ae_rules.specs.Clauses.{Clause}
use Rattle.ae_sure_literals.specs.Inner.Given.{listed}
use Rattle.ae_sure_literals.proofs.GivenClauses.{more_hypotheses}
use Rattle.ae_sure_literals.proofs.given.add_hypotheses.Goals as goal

pub loop-place-init : goal.loop-place-init
loop-place-init c = sym (append-nil c.args.given.now)

pub loop-place-preserved : goal.loop-place-preserved
loop-place-preserved c =
    c.in_ok-add_clause.ensures ∙ ap (λ (o : Option Clause). c.loop-place.given ++ listed o) c.in_ok-clause.ensures
    ∙ more_hypotheses c.args.problem.now c.args.goal c.loop-place.place c.args.given.now c.loop-place.given c.loop-place.invariant
