use Rattle.ae_sat_tests.proofs.Named.{named_eq}
use Rattle.ae_sat_tests.proofs.tests.equation.Goals as goal

pub returns : goal.returns
returns c = named_eq c.args.store.now _ _ (c.in_ok-has_name.ensures c.if-not-branch.false) (c.in_ok-has_name-2.ensures c.if-not-branch-2.false)
