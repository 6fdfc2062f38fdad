-- Substitutions of sorts and unifiers, as the textbooks have them.
-- A substitution gives a sort for each variable. It is put into a sort by putting its sort in the place of each variable.
use Rattle.std.specs.Prelude.{ℕ, List, ◌≡◌}
use Rattle.std.specs.List.{AllByRecursion}
use Rattle.ae_core.specs.declared.terms.Sort.{Sort, Sort-F, Rigid, Int, Real, Bool as BoolSort, Unit as UnitSort, Named, fold-Sort}
use Rattle.ae_core.specs.declared.terms.Sort.TheOpen as layer
use Rattle.ae_types.specs.declared.pairs.SortPair.{SortPair}

abbrev pub put_step : (ℕ → Sort) → Sort-F Sort → Sort
put_step f (layer.Var i) = f i
put_step f (layer.Rigid i) = Rigid i
put_step f layer.Int = Int
put_step f layer.Real = Real
put_step f layer.Bool = BoolSort
put_step f layer.Unit = UnitSort
put_step f (layer.Named h args) = Named h args

-- a sort with the substitution put into it
unfoldable pub put : (ℕ → Sort) → Sort → Sort
put f = fold-Sort Sort (put_step f)

-- the substitution makes two sorts equal
abbrev pub MakesEqual : (ℕ → Sort) → Sort → Sort → Type 0
MakesEqual f s t = put f s ≡ put f t

-- a unifier of a list of pairs makes the two sorts of each pair equal
abbrev pub Unifies : (ℕ → Sort) → List SortPair → Type 0
Unifies f pairs = AllByRecursion (λ p. MakesEqual f p.left p.right) pairs

-- m is at least as general as f: f is m followed by some substitution
abbrev pub IsMoreGeneral : (ℕ → Sort) → (ℕ → Sort) → Type 0
IsMoreGeneral m f = (g : ℕ → Sort) × ((n : ℕ) → put g (m n) ≡ f n)

-- f is m followed by f itself, so that f makes each variable equal to what m gives for it
abbrev pub Respects : (ℕ → Sort) → (ℕ → Sort) → Type 0
Respects f m = (n : ℕ) → put f (m n) ≡ f n

-- putting m twice is putting it once
abbrev pub IsIdempotent : (ℕ → Sort) → Type 0
IsIdempotent m = (n : ℕ) → put m (m n) ≡ m n
