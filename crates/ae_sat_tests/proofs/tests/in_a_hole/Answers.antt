use Rattle.ae_sat_tests.proofs.tests.in_a_hole.Goals as goal

pub returns : goal.returns
returns c =
    let s = c.args.store.now in
    c.in_ok-push_lit-2.ensures s (c.in_ok-push_lit.ensures s (c.in_ok-clause.ensures s c.in_ok-equation.ensures) c.in_ok-equation-2.ensures) c.in_ok-equation-3.ensures
