-- Why pairs of sorts have no unifier.
-- An equation follows from pairs by the laws of equality and because sorts of declared types are equal only part by part.
use Rattle.std.specs.Prelude.{ℕ, ◌+◌, ◌<◌, List, [], ◌∷◌, ◌++◌, ◌≡◌, ◌≢◌, ◌⊎◌, map, length, nat_eq, if◌then◌else◌}
use Rattle.ae_core.specs.declared.terms.Sort.{Sort, Sort-F, Var, Rigid, Int, Real, Bool as BoolSort, Unit as UnitSort, Named, fold-Sort}
use Rattle.ae_core.specs.declared.terms.Sort.TheOpen as layer
use Rattle.ae_types.specs.declared.pairs.SortPair.{SortPair}
use Rattle.ae_types.specs.declared.pairs.Clash.{Clash}
use Rattle.ae_types.specs.declared.pairs.Clash.TheVariants.{Differ, Cycle, Memory}

-- the equations that follow from given ones
pub data Follows (given : Sort → Sort → Type 0) : Sort → Sort → Type 0 where
  is_given : {s t : Sort} → given s t → Follows given s t
  reflexive : {s : Sort} → Follows given s s
  symmetric : {s t : Sort} → Follows given t s → Follows given s t
  transitive : {s m t : Sort} → Follows given s m → Follows given m t → Follows given s t
  -- equals are put for one argument of a type
  congruent : {s t : Sort} (h : ℕ) (before after : List Sort) → Follows given s t → Follows given (Named h (before ++ s ∷ after)) (Named h (before ++ t ∷ after))
  -- sorts of one type, with as many arguments, are equal only argument by argument
  injective : {s t : Sort} (h : ℕ) (before after before' after' : List Sort) → length before ≡ length before' → length after ≡ length after'
      → Follows given (Named h (before ++ s ∷ after)) (Named h (before' ++ t ∷ after')) → Follows given s t

-- two sorts are one of the pairs
abbrev pub IsPair : List SortPair → Sort → Sort → Type 0
IsPair [] s t = ⊥
IsPair (p ∷ ps) s t = ((s ≡ p.left) × (t ≡ p.right)) ⊎ IsPair ps s t

-- a sort without what its arguments are
abbrev pub head_step : Sort-F Sort → Sort
head_step (layer.Var i) = Var i
head_step (layer.Rigid i) = Rigid i
head_step layer.Int = Int
head_step layer.Real = Real
head_step layer.Bool = BoolSort
head_step layer.Unit = UnitSort
head_step (layer.Named h args) = Named h (map (λ s. UnitSort) args)

-- the head of a sort with its number of arguments: the sort with `unit` for each argument
unfoldable pub head_of : Sort → Sort
head_of = fold-Sort Sort head_step

-- neither sort is a variable, and their heads or their numbers of arguments differ
pub record AreApart (s t : Sort) : Type 0 where
  pub left : (n : ℕ) → s ≢ Var n
  pub right : (n : ℕ) → t ≢ Var n
  pub heads : head_of s ≢ head_of t

abbrev pub total : List ℕ → ℕ
total [] = 0
total (n ∷ ns) = n + total ns

abbrev pub count_step : ℕ → Sort-F ℕ → ℕ
count_step x (layer.Var i) = if nat_eq i x then 1 else 0
count_step x (layer.Rigid i) = 0
count_step x layer.Int = 0
count_step x layer.Real = 0
count_step x layer.Bool = 0
count_step x layer.Unit = 0
count_step x (layer.Named h ns) = total ns

-- how often a variable occurs in a sort
unfoldable pub count_of : ℕ → Sort → ℕ
count_of x = fold-Sort ℕ (count_step x)

-- a variable occurs in a sort that isn't the variable
pub record OccursWithin (x : ℕ) (s : Sort) : Type 0 where
  pub occurs : 0 < count_of x s
  pub within : s ≢ Var x

-- what a clash says of given equations: two sorts that are apart would have to be equal, or a variable and a sort in which it occurs
abbrev pub IsClash : (Sort → Sort → Type 0) → Clash → Type 0
IsClash given (Differ s t) = Follows given s t × AreApart s t
IsClash given (Cycle x s) = Follows given (Var x) s × OccursWithin x s
IsClash given (Memory e) = Unit {0}

-- want of memory says nothing; the other clashes say that this is false
abbrev pub Refutes : Clash → Type 0 → Type 0
Refutes (Differ s t) P = P → ⊥
Refutes (Cycle x s) P = P → ⊥
Refutes (Memory e) P = Unit {0}
