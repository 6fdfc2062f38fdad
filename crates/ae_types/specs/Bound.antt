-- What bindings put for variables.
use Rattle.std.specs.Prelude.{ℕ, ◌<◌, length, ◌≡◌, ◌⊎◌, Option, Some, None}
use Rattle.ae_core.specs.declared.terms.Sort.{Sort, Var}
use Rattle.ae_types.specs.Inner.Graphs.{Solves, Fits, known_slot, node_at, slots_of, solution}
use Rattle.ae_types.specs.Inner.Levels.{Settled}
use Rattle.ae_types.specs.Inner.Enters.{Sheet, SheetWell, place_of}

-- the sort of a variable, from the sorts of places and its own place
abbrev pub reads : (ℕ → Sort) → ℕ → Option ℕ → Sort
reads v n None = Var n
reads v n (Some p) = v p

abbrev pub reading : Sheet → (ℕ → Sort) → ℕ → Sort
reading t v n = reads v n (place_of t.names n)

abbrev pub solved_by : Sheet → ℕ → Sort
solved_by t = solution t.nodes t.classes

-- the graph has a solution, and each solution agrees with what each place was entered for
pub record IsSound (t : Sheet) : Type 0 where
  pub well : SheetWell t
  pub settled : Settled (slots_of t.nodes t.classes)
  pub keeps : (v : ℕ → Sort) → Solves None v (slots_of t.nodes t.classes) → (i : ℕ) → i < length t.nodes → Fits None v (known_slot (node_at t.nodes i)) (v i)

-- the substitution that bindings are: what they put for each variable
abbrev pub bound : Sheet → ℕ → Sort
bound t = reading t (solved_by t)

-- what the bindings put for a variable is given, and a pair of sorts
abbrev pub IsGiven : Sheet → Sort → Sort → Sort → Sort → Type 0
IsGiven t left right x y = ((n : ℕ) × (x ≡ Var n) × (y ≡ bound t n)) ⊎ ((x ≡ left) × (y ≡ right))
