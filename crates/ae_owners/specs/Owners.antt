-- Owners with their patterns.
use Rattle.std.specs.Prelude.{ℕ, List, ◌++◌, ◌≡◌, slice_get, Some, None}
use Rattle.std.specs.List.{AllByRecursion}
use Rattle.ae_core.specs.declared.problems.Problem.{Problem}
use Rattle.ae_journal.specs.States as states
use Rattle.ae_trigger.specs.Patterns.{patterns_of}
use Rattle.ae_owners.specs.declared.owners.Owner.{Owner}

-- what it is: an axiom, or a literal
abbrev pub owner_of : Owner → states.Owner
owner_of o = elim o.place [ Some k ↦ states.of_axiom k | None ↦ states.of_literal (record { positive = o.positive; formula = o.formula }) ]

-- its patterns are those of its triggers, in order
pub record IsOwnerIn (p : Problem) (g : ℕ) (o : Owner) : Type 0 where
  pub pattern : states.Pattern
  pub is : states.pattern_of p g (owner_of o) ≡ Some pattern
  pub patterns : o.patterns ≡ patterns_of pattern

-- the owner of a number is this
pub record IsOwnerAt (os : List Owner) (k : ℕ) (w : states.Owner) : Type 0 where
  pub owner : Owner
  pub at : slice_get os k ≡ Some owner
  pub is : owner_of owner ≡ w

abbrev pub HasOwner : List Owner → states.Owner → Type 0
HasOwner os w = (k : ℕ) × IsOwnerAt os k w

-- no owner has two numbers
abbrev pub AreOwnersApart : List Owner → Type 0
AreOwnersApart os = (k m : ℕ) (o e : Owner) → slice_get os k ≡ Some o → slice_get os m ≡ Some e → owner_of o ≡ owner_of e → k ≡ m

-- some that are right were added
pub record MoreOwners (Right : Owner → Type 0) (old new : List Owner) : Type 0 where
  pub more : List Owner
  pub is : new ≡ old ++ more
  pub right : AllByRecursion Right more
