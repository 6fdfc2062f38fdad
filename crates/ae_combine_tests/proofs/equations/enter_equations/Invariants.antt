use Rattle.std.specs.Prelude.{◌≡◌}
use Rattle.ae_combine_tests.proofs.equations.enter_equations.Given as goal

abbrev pub invariant-loop-number : goal.invariant-loop-number
invariant-loop-number l = l.store.signature ≡ l.fn.store.signature
