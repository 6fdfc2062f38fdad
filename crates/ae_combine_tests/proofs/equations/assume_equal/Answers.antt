use Rattle.ae_combine_tests.proofs.Named.{equation}
use Rattle.ae_combine_tests.proofs.equations.assume_equal.Goals as goal

pub assume_named-requires-clause-named : goal.assume_named-requires-clause-named
assume_named-requires-clause-named c = equation c.args.store.now c.args.left.now c.args.right.now (c.in_ok-first.ensures c.if-not-first.false) (c.in_ok-second.ensures c.if-not-second.false)
