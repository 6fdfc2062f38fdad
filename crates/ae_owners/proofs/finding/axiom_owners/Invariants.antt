use Rattle.std.proofs.Common.{ℕ, ◌<◌, ◌≡◌, Some}
use Rattle.std.specs.List.{AllByRecursion}
use Rattle.ae_journal.specs.States.{Pattern, of_axiom, pattern_of}
use Rattle.ae_owners.specs.Inner.Places.{AreAxiomsBelow}
use Rattle.ae_owners.specs.Owners.{AreOwnersApart, HasOwner, IsOwnerIn}
use Rattle.ae_owners.proofs.finding.axiom_owners.Given as goal

abbrev pub invariant-loop-place : goal.invariant-loop-place
invariant-loop-place l =
    AllByRecursion (IsOwnerIn l.problem l.goal) l.owners
    × ((k : ℕ) (q : Pattern) → k < l.place → pattern_of l.problem l.goal (of_axiom k) ≡ Some q → HasOwner l.owners (of_axiom k))
    × AreOwnersApart l.owners
    × AreAxiomsBelow l.place l.owners
