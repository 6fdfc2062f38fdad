use Rattle.std.proofs.Common.{sym, subst}
use Rattle.ae_sat.specs.Search.{AllNamed}
use Rattle.ae_sat_tests.proofs.Named.{all_none}
use Rattle.ae_sat_tests.proofs.tests.pigeonholes.Goals as goal

pub loop-pigeon-init : goal.loop-pigeon-init
loop-pigeon-init c = subst (AllNamed c.args.store.now) (sym c.new-clauses.ensures) (all_none c.args.store.now)

pub loop-other-init : goal.loop-other-init
loop-other-init c = c.in_ok-push_clause.ensures c.args.store.now c.loop-pigeon.invariant c.in_ok-in_a_hole.ensures

pub loop-other-preserved : goal.loop-other-preserved
loop-other-preserved c = c.in_ok-push_clause-2.ensures c.args.store.now c.loop-other.invariant c.in_ok-in_two_holes.ensures
