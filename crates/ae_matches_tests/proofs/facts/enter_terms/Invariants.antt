use Rattle.std.specs.Prelude.{◌≡◌}
use Rattle.ae_matches_tests.proofs.facts.enter_terms.Given as goal

abbrev pub invariant-loop-term : goal.invariant-loop-term
invariant-loop-term l = l.store.signature ≡ l.fn.store.signature
