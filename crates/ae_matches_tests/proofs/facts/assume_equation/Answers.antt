use Rattle.std.proofs.Common.{sym, subst}
use Rattle.ae_theory.specs.Names.{AreNamed}
use Rattle.ae_matches_tests.proofs.Named.{equation}
use Rattle.ae_matches_tests.proofs.facts.assume_equation.Goals as goal

pub assume_named-requires-clause-named : goal.assume_named-requires-clause-named
assume_named-requires-clause-named g c = let s = c.args.store.now in subst (AreNamed s) (sym c.requires.equation)
    (equation s c.args.left.now c.args.right.now (c.in_ok-has_name.ensures c.if-not-branch.false) (c.in_ok-has_name-2.ensures c.if-not-branch-2.false))
