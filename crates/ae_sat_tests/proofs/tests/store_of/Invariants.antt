use Rattle.std.specs.Prelude.{◌≡◌}
use Rattle.ae_sat_tests.proofs.tests.store_of.Given as goal

abbrev pub invariant-loop-number : goal.invariant-loop-number
invariant-loop-number l = l.signature ≡ l.store.signature
