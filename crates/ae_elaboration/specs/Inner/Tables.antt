-- Tables of the numbers of type variables.
use Rattle.std.specs.Prelude.{ℕ, ◌≡◌, List, Option}
use Rattle.ae_core.specs.Sorts.{same_sort}
use Rattle.ae_core.specs.declared.terms.Sort.{Sort}
use Rattle.ae_elab.specs.Scope.{first_place}

-- it finds each type variable of a kind where it stands
abbrev pub Finds : (ℕ → Sort) → List Sort → (ℕ → Option ℕ) → Type 0
Finds make ss found = (n : ℕ) → found n ≡ first_place (same_sort (make n)) ss
