use Rattle.std.specs.List.Sorted.{IsNonDecreasing}
use Rattle.std.proofs.Common.{sym, subst}
use Rattle.ae_monoid_tests.proofs.tests.composed.Goals as goal

pub compare-requires-clause-right : goal.compare-requires-clause-right
compare-requires-clause-right c =
    subst IsNonDecreasing (sym c.as_slice.ensures) (c.in-Some.ensures.rules.well c.args.number c.in-Some.rule.now (sym c.in-Some.ensures.rule)).left_rises
