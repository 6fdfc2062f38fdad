-- Matches that are owed between two rounds.
use Rattle.std.specs.Prelude.{ℕ, ◌<◌, ◌≡◌, ◌≢◌, false, [], length, map, slice_get, Some}
use Rattle.std.specs.List.{AllByRecursion, list_any}
use Rattle.ae_between_rounds.specs.declared.search.Owed.{Owed}
use Rattle.ae_between_rounds.specs.declared.search.OwedAt.{OwedAt}
use Rattle.ae_between_rounds.specs.declared.search.Search.{Search}
use Rattle.ae_core.specs.declared.problems.Problem.{Problem}
use Rattle.ae_inst.specs.Matches.{is_match}
use Rattle.ae_open_states.specs.Shown.{trail_literals}
use Rattle.ae_owed.specs.Known.{IsFoundAt}
use Rattle.ae_owed.specs.Owed.{OwnerIsThere}
use Rattle.ae_owners.specs.Owners.{owner_of}
use Rattle.ae_owners.specs.declared.owners.Owner.{Owner}
use Rattle.ae_store.specs.Shapes.{shapes}
use Rattle.ae_store.specs.Terms.{named, terms}
use Rattle.ae_value_table.specs.Alike.{alike}

-- a match, among the names of generation at most n, of an owner that is there; none that is the same was taken
pub record IsOwedAt (p : Problem) (g : ℕ) (o : Search) (n : ℕ) (w : Owed) : Type 0 where
  pub owner : Owner
  pub at : slice_get o.owners w.owner ≡ Some owner
  pub there : OwnerIsThere (trail_literals o.solver.propagation.trail) (owner_of owner)
  pub found : IsFoundAt p g o.store (alike o.solver.theory.values) n (owner_of owner) w.subst.sorts (map (named (terms (shapes o.store.nodes))) w.subst.terms)
  pub within : AllByRecursion (λ v. v < length o.store.nodes) w.subst.terms
  pub untaken : list_any (is_match (alike o.solver.theory.values) w.owner w.subst) o.instances.taken.taken ≡ false

-- some are owed at a number below the bound
pub record AreOwed (p : Problem) (g bound : ℕ) (o : Search) (found : OwedAt) : Type 0 where
  pub number : found.number < bound
  pub some : found.owed ≢ []
  pub each : AllByRecursion (IsOwedAt p g o found.number) found.owed
