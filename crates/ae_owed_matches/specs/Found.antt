-- The matches of patterns at a number, and which of them are owed.
use Rattle.std.specs.Prelude.{ℕ, ◌<◌, ◌+◌, Bool, true, not, List, ◌≡◌, length, map}
use Rattle.std.specs.List.{AllByRecursion, Contains, list_any}
use Rattle.ae_inst.specs.Matches.{is_match}
use Rattle.ae_inst.specs.declared.instances.Taken.{Taken}
use Rattle.ae_matches.specs.Answers.{IsMatchOf, is_same_match}
use Rattle.ae_owed.specs.Instances.{Instance}
use Rattle.ae_owners.specs.Owners.{IsOwnerAt}
use Rattle.ae_owners.specs.declared.owners.Owner.{Owner}
use Rattle.ae_store.specs.Shapes.{shapes}
use Rattle.ae_store.specs.Stores.{Stored}
use Rattle.ae_store.specs.Terms.{terms, named}
use Rattle.ae_trigger.specs.declared.patterns.Pattern.{Pattern}
use Rattle.ae_trigger.specs.declared.patterns.Subst.{Subst}

-- each is a match of one of the patterns, with names of generation at most n; and each such match is the same as one of them
pub record AreFound (s : Stored) (alike : ℕ → ℕ → Bool) (n : ℕ) (ps : List Pattern) (ms : List Subst) : Type 0 where
  pub sound : (m : Subst) → Contains ms m → (p : Pattern) × Contains ps p × IsMatchOf s alike (n + 1) p m
  pub complete : (p : Pattern) (m : Subst) → Contains ps p → IsMatchOf s alike (n + 1) p m → (a : Subst) × Contains ms a × (is_same_match alike m a ≡ true)

-- sorts and names are themselves a match of one of the patterns
abbrev pub IsAnyMatch : Stored → (ℕ → ℕ → Bool) → ℕ → List Pattern → Subst → Type 0
IsAnyMatch s alike n ps m = (p : Pattern) × Contains ps p × IsMatchOf s alike (n + 1) p m

-- none that is the same was taken
abbrev pub is_owed : (ℕ → ℕ → Bool) → ℕ → List Taken → Subst → Bool
is_owed alike owner taken m = not (list_any (is_match alike owner m) taken)

-- a match that was taken is one of the instances, with its owner's number among the owners
pub record IsKeptAs (s : Stored) (owners : List Owner) (instances : List Instance) (t : Taken) : Type 0 where
  pub instance : Instance
  pub among : Contains instances instance
  pub owner : IsOwnerAt owners t.owner instance.owner
  pub sorts : instance.sorts ≡ t.sorts
  pub terms : instance.terms ≡ map (named (terms (shapes s.nodes))) t.terms
  pub within : AllByRecursion (λ v. v < length s.nodes) t.terms

abbrev pub AreKeptAs : Stored → List Owner → List Instance → List Taken → Type 0
AreKeptAs s owners instances taken = (t : Taken) → Contains taken t → IsKeptAs s owners instances t
