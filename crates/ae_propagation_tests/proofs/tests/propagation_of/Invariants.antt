use Rattle.std.proofs.Common.{◌≡◌, []}
use Rattle.ae_propagation_tests.proofs.tests.propagation_of.Given as goal

abbrev pub invariant-loop-i : goal.invariant-loop-i
invariant-loop-i l = l.propagation.trail ≡ []
