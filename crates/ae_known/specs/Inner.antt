-- What undoes an entry, and where a group stands.
use Rattle.std.specs.Prelude.{ℕ, ◌≡◌, ◌<◌, true, false, List, [], ◌∷◌, length, take, slice_get, Option, Some, None}
use Rattle.std.specs.List.{list_any}
use Rattle.ae_core.specs.Sorts.{same_sorts}
use Rattle.ae_core.specs.declared.terms.Sort.{Sort}
use Rattle.ae_known.specs.declared.rows.Group.{Group}

-- all but the last
abbrev pub front : List ℕ → List ℕ
front [] = []
front (n ∷ []) = []
front (n ∷ m ∷ ns) = n ∷ front (m ∷ ns)

-- what stood there before: these names, or all but the last
abbrev pub undone : Option (List ℕ) → List ℕ → List ℕ
undone None ns = front ns
undone (Some old) ns = old

-- the place of the first group of these sorts
abbrev pub IsPlace : List Sort → List Group → ℕ → Type 0
IsPlace ss gs i = (list_any (λ g. same_sorts g.sorts ss) (take i gs) ≡ false) × (i < length gs) × ((g : Group) → slice_get gs i ≡ Some g → same_sorts g.sorts ss ≡ true)
