-- The representatives of names: the least of those that are the same.
use Rattle.std.specs.Prelude.{ℕ, ◌<◌, List, ◌≡◌, length, slice_get, Some}
use Rattle.std.specs.List.{AllByRecursion}
use Rattle.ae_core.specs.declared.terms.Sort.{Sort}
use Rattle.ae_journal.specs.Values.{Val}
use Rattle.ae_journal.specs.Systems.{Has, Represents}
use Rattle.ae_store.specs.Stores.{Stored, IsStore}
use Rattle.ae_theory.specs.Names.{terms_in}
use Rattle.ae_sweeps.specs.Given.{rep_in}
use Rattle.ae_equation_turns.specs.Turned.{AreLeast}
use Rattle.ae_value_table.specs.Alike.{IsLeastAlike}
use Rattle.ae_value_fitting.specs.Fitting.{system_in}
use Rattle.ae_state.specs.declared.holding.Holding.{Holding}
use Rattle.ae_state.specs.Names.{terms_now}
use Rattle.ae_state.specs.Fitting.{FitsStore}

-- it fits the store, and all names of the store have values
pub record IsTaken (o : Holding) (s : Stored) : Type 0 where
  pub store : IsStore s.signature s.nodes
  pub fits : FitsStore o s
  pub all : terms_now o ≡ terms_in s

-- for each name that has a value the least that is the same
pub record AreRepresentatives (o : Holding) (reps : List ℕ) : Type 0 where
  pub one_each : length reps ≡ o.values.taken
  pub least : (n r : ℕ) → slice_get reps n ≡ Some r → IsLeastAlike o.values n r

-- it represents each value within its sort
abbrev pub LeastNamesRepresent : Type 0
LeastNamesRepresent = (o : Holding) (s : Stored) (reps : List ℕ) → IsTaken o s → AreRepresentatives o reps → (sort : Sort) (v : Val) (n : ℕ)
    → Has s.signature (system_in (terms_in s) o.values) sort v n → Represents s.signature (system_in (terms_in s) o.values) sort v (rep_in reps n)

-- a representative is no larger than its name, its own, and a name
abbrev pub RepresentativesAreLeast : Type 0
RepresentativesAreLeast = (o : Holding) (reps : List ℕ) → AreRepresentatives o reps → AreLeast reps

abbrev pub RepresentativesAreNames : Type 0
RepresentativesAreNames = (o : Holding) (s : Stored) (reps : List ℕ) → IsTaken o s → AreRepresentatives o reps → AllByRecursion (λ r. r < length s.nodes) reps
