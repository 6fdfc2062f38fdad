use Rattle.std.proofs.Common.{ℕ, ◌<◌}
use Rattle.ae_journal.specs.States.{of_literal}
use Rattle.ae_owners.specs.Owners.{IsOwnerAt}
use Rattle.ae_owners.proofs.finding.find.Given as goal

abbrev pub invariant-loop-number : goal.invariant-loop-number
invariant-loop-number l = (k : ℕ) → k < l.number → ¬ IsOwnerAt l.owners k (of_literal l.lit)
