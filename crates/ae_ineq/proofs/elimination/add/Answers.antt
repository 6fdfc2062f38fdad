use Rattle.std.proofs.Common.{rules, inr}
use Rattle.ae_ineq.specs.Inner.Sets.{HasDirection}
use Rattle.ae_ineq.proofs.RowSets.{multiple_seen}
use Rattle.ae_ineq.proofs.elimination.add.Goals as goal

pub returns-in_ok-push-clause-new : goal.returns-in_ok-push-clause-new
returns-in_ok-push-clause-new c =
    let none : ¬ HasDirection c.args.rest.now c.args.row.direction = search rules in
    inr (λ h. none (multiple_seen c.args.rest.now c.args.row c.requires.row c.requires.rest h))
