use Rattle.std.specs.Prelude.{◌≡◌}
use Rattle.ae_matches_tests.proofs.trials.enter_facts.Given as goal

abbrev pub invariant-loop-item : goal.invariant-loop-item
invariant-loop-item l = l.store.signature ≡ l.fn.store.signature
