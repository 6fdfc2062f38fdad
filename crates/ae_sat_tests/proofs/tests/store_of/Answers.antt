use Rattle.std.proofs.Common.{sym, ◌∙◌}
use Rattle.ae_sat_tests.proofs.tests.store_of.Goals as goal

pub loop-number-init : goal.loop-number-init
loop-number-init c = sym c.in_ok-store.ensures.signature

pub loop-number-preserved : goal.loop-number-preserved
loop-number-preserved c = c.loop-number.invariant ∙ sym c.in_ok-enter.ensures
