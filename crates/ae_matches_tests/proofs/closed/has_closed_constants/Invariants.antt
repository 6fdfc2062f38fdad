use Rattle.std.proofs.Common.{◌≡◌, ◌<◌, ℕ, false}
use Rattle.std.specs.List.{list_any}
use Rattle.ae_matches.specs.Steps.{fresh_has}
use Rattle.ae_matches_tests.proofs.closed.has_closed_constants.Given as goal

abbrev pub invariant-loop-number : goal.invariant-loop-number
invariant-loop-number l = (i : ℕ) → i < l.number → list_any (fresh_has i) l.pattern.terms ≡ false
