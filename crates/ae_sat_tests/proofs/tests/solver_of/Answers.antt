use Rattle.std.proofs.Common.{[], refl, subst, ◌∙◌}
use Rattle.std.specs.List.{Contains}
use Rattle.ae_rules.specs.Clauses.{Clause}
use Rattle.ae_sat_tests.proofs.Named.{one_at}
use Rattle.ae_sat_tests.proofs.tests.solver_of.Goals as goal

pub loop-clause-init : goal.loop-clause-init
loop-clause-init g c = c.new-solver.ensures.alive c.args.store.now [] c.requires.fits c.requires.step refl

pub loop-clause-preserved : goal.loop-clause-preserved
loop-clause-preserved g c =
    let d = c.clause-item.result in
    c.in_ok-add.ensures.alive c.args.store.now [] c.loop-clause.invariant (λ l k. c.requires.named d l (one_at c.args.clauses.now c.loop-clause.clause-index d c.loop-clause-test.true c.clause-item.is)
    (subst (λ (w : Clause). Contains w l) (c.in_ok-copy.ensures ∙ c.as_slice.ensures) k))
