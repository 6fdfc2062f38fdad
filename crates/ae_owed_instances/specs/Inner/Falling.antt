-- Numbers of instances that fall.
use Rattle.std.specs.Prelude.{ℕ, ◌+◌, ◌-◌, ◌<◌, ◌≤◌, List, [], ◌∷◌, ◌≡◌, map, length, slice_get, Some}
use Rattle.ae_between_rounds.specs.Between.{IsBetweenRounds}
use Rattle.ae_between_rounds.specs.Finished.{IsOpenSearch}
use Rattle.ae_between_rounds.specs.declared.search.Instance.{Instance}
use Rattle.ae_between_rounds.specs.declared.search.Search.{Search}
use Rattle.ae_core.specs.declared.problems.Problem.{Problem}
use Rattle.ae_owed.specs.Known.{IsFoundAt}
use Rattle.ae_owners.specs.Owners.{owner_of}
use Rattle.ae_owners.specs.declared.owners.Owner.{Owner}
use Rattle.ae_store.specs.Shapes.{shapes}
use Rattle.ae_store.specs.Terms.{named, terms}
use Rattle.ae_value_table.specs.Alike.{alike}

-- all numbers together
abbrev pub total : List Instance → ℕ
total [] = 0
total (i ∷ is) = i.number + total is

-- the instance at a place is itself a match at a number now
pub record IsMatchNow (p : Problem) (g : ℕ) (o : Search) (place n : ℕ) : Type 0 where
  pub instance : Instance
  pub at : slice_get o.instances.made place ≡ Some instance
  pub owner : Owner
  pub there : slice_get o.owners instance.owner ≡ Some owner
  pub found : IsFoundAt p g o.store (alike o.solver.theory.values) n (owner_of owner) instance.subst.sorts (map (named (terms (shapes o.store.nodes))) instance.subst.terms)

-- no less number would do
abbrev pub IsLeastNow : Problem → ℕ → Search → ℕ → Type 0
IsLeastNow p g o place = (i : Instance) → slice_get o.instances.made place ≡ Some i → 0 < i.number → ¬ IsMatchNow p g o place (i.number - 1)

-- generations and numbers have fallen, and nothing else has changed
pub record HasFallen (p : Problem) (g bound : ℕ) (old new : Search) : Type 0 where
  pub between : IsBetweenRounds p g bound new
  pub is_open : IsOpenSearch new
  pub owners : new.owners ≡ old.owners
  pub taken : new.instances.taken ≡ old.instances.taken
  pub many : length new.instances.made ≡ length old.instances.made
  pub total : total new.instances.made ≤ total old.instances.made
