-- While the steps that a step rests on are found, the greatest first.
use Rattle.std.specs.Prelude.{ℕ, ◌+◌, ◌<◌, ◌⊎◌, List, [], ◌∷◌, ◌≡◌, slice_get, Some}
use Rattle.std.specs.List.{AllByRecursion}
use Rattle.ae_store.specs.Parts.{IsIn, AreIn}
use Rattle.ae_just.specs.declared.steps.Step.{Step}
use Rattle.ae_just.specs.Steps.{premises}
use Rattle.ae_just.specs.Needed.{RestsOn}

-- the steps rest on earlier ones
pub record RestOnEarlier (steps : List Step) : Type 0 where
  pub each : (k : ℕ) (s : Step) → slice_get steps k ≡ Some s → AllByRecursion (λ p. p < k) (premises s.rule)

-- the names of old with these, and no others
pub record AreJoined (old more new : List ℕ) : Type 0 where
  pub kept : AreIn old new
  pub added : AreIn more new
  pub only : (a : ℕ) → IsIn a new → IsIn a old ⊎ IsIn a more

-- a number above all that are pending: the last that was found, or else the first limit
abbrev pub limit : ℕ → List ℕ → ℕ
limit n [] = n
limit n (k ∷ ks) = limit k ks

-- what was found falls and what is pending lies below it; both are steps that id rests on; a premise of one found is found or pending
pub record IsSearched (steps : List Step) (id : ℕ) (pending found : List ℕ) : Type 0 where
  pub below : (k : ℕ) → IsIn k pending → k < limit (id + 1) found
  pub falling : (i j a b : ℕ) → i < j → slice_get found i ≡ Some a → slice_get found j ≡ Some b → b < a
  pub least : (a : ℕ) → IsIn a found → limit (id + 1) found < a + 1
  pub limited : limit (id + 1) found < id + 2
  pub pending_sound : (k : ℕ) → IsIn k pending → RestsOn steps id k
  pub found_sound : (k : ℕ) → IsIn k found → RestsOn steps id k
  pub closed : (k p : ℕ) (s : Step) → IsIn k found → slice_get steps k ≡ Some s → IsIn p (premises s.rule) → IsIn p found ⊎ IsIn p pending
  pub begun : IsIn id found ⊎ IsIn id pending
