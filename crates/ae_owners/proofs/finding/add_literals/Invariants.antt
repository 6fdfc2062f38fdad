use Rattle.std.proofs.Common.{ℕ, ◌<◌, ◌≡◌, true, Some, slice_get}
use Rattle.ae_core.specs.declared.problems.Problem.{Problem}
use Rattle.ae_explain.specs.declared.trail.Assigned.{Assigned}
use Rattle.ae_journal.specs.States.{is_universal, of_literal}
use Rattle.ae_owners.specs.Owners.{AreOwnersApart, HasOwner, IsOwnerIn, MoreOwners}
use Rattle.ae_owners.proofs.finding.add_literals.Given as goal

abbrev pub invariant-loop-assigned : goal.invariant-loop-assigned
invariant-loop-assigned l =
    ((p : Problem) (g : ℕ) → p.signature ≡ l.signature → MoreOwners (IsOwnerIn p g) l.initial.owners l.owners)
    × (AreOwnersApart l.initial.owners → AreOwnersApart l.owners)
    × ((k : ℕ) (a : Assigned) → k < l.assigned-index → slice_get l.trail k ≡ Some a → is_universal a.lit ≡ true → HasOwner l.owners (of_literal a.lit))
