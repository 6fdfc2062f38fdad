-- Marked places of a trail.
use Rattle.std.specs.Prelude.{◌≡◌, ◌≢◌, ℕ, zero, suc, ◌+◌, ◌<◌, ◌≤◌, ◌==◌, ◌&&◌, Bool, true, false, List, [], ◌∷◌, ◌++◌, length, slice_index_or, Option, Some, None, if◌then◌else◌}
use Rattle.std.specs.List.{Contains}
use Rattle.ae_rules.specs.Clauses.{Clause, opposite}
use Rattle.ae_core.specs.declared.formulas.Lit.{Lit}
use Rattle.ae_explain.specs.declared.trail.Assigned.{Assigned}
use Rattle.ae_explain.specs.declared.marks.Mark.{Mark}
use Rattle.ae_explain.specs.declared.marks.Mark.TheVariants.{Blank, Kept, Resolved}
use Rattle.ae_explain.specs.Trail.{at, place_in, clause}

abbrev pub mark : List Mark → ℕ → Mark
mark marks p = slice_index_or marks p Blank

abbrev pub is_marked : Mark → Bool
is_marked Blank = false
is_marked Kept = true
is_marked Resolved = true

abbrev pub is_kept : Mark → Bool
is_kept Blank = false
is_kept Kept = true
is_kept Resolved = false

abbrev pub is_resolved : Mark → Bool
is_resolved Blank = false
is_resolved Kept = false
is_resolved Resolved = true

abbrev pub marked : List Mark → ℕ → Bool
marked marks p = is_marked (mark marks p)

abbrev pub kept : List Mark → ℕ → Bool
kept marks p = is_kept (mark marks p)

abbrev pub resolved : List Mark → ℕ → Bool
resolved marks p = is_resolved (mark marks p)

-- how many numbers below n pass
unfoldable pub count : (ℕ → Bool) → ℕ → ℕ
count f zero = 0
count f (suc n) = (if f n then 1 else 0) + count f n

abbrev pub is_kept_at : List Assigned → List Mark → ℕ → ℕ → Bool
is_kept_at trail marks level p = kept marks p && ((at trail p).level == level)

-- how many places of a level are kept
abbrev pub kept_at : List Assigned → List Mark → ℕ → ℕ
kept_at trail marks level = count (is_kept_at trail marks level) (length trail)

-- ---- what a clause keeps
abbrev pub IsPlaceOf : List Assigned → Clause → ℕ → Type 0
IsPlaceOf trail c p = (m : Lit) × Contains c m × (place_in trail m.formula ≡ Some p)

pub record KeepsPlace (old new : List Mark) (place : ℕ) : Type 0 where
  pub others : (p : ℕ) → p ≢ place → mark new p ≡ mark old p
  pub same : marked old place ≡ true → mark new place ≡ mark old place
  pub fresh : marked old place ≡ false → kept new place ≡ true

-- the place of a literal's formula is marked
pub record KeepsLit (trail : List Assigned) (old new : List Mark) (m : Lit) : Type 0 where
  pub grows : (p : ℕ) → marked old p ≡ true → mark new p ≡ mark old p
  pub fresh : (p : ℕ) → marked old p ≡ false → marked new p ≡ true → (kept new p ≡ true) × (place_in trail m.formula ≡ Some p)
  pub there : (p : ℕ) → place_in trail m.formula ≡ Some p → marked new p ≡ true

-- the places of a clause's formulas are marked
pub record KeepsClause (trail : List Assigned) (old new : List Mark) (c : Clause) : Type 0 where
  pub grows : (p : ℕ) → marked old p ≡ true → mark new p ≡ mark old p
  pub fresh : (p : ℕ) → marked old p ≡ false → marked new p ≡ true → (kept new p ≡ true) × IsPlaceOf trail c p
  pub all : (m : Lit) → Contains c m → (p : ℕ) → place_in trail m.formula ≡ Some p → marked new p ≡ true

-- ---- resolved places
-- the opposite of a literal stands at a marked place below n
abbrev pub IsMarked : List Assigned → List Mark → ℕ → Lit → Type 0
IsMarked trail marks n m = (j : ℕ) × (j < n) × ((at trail j).lit ≡ opposite m) × (marked marks j ≡ true)

-- the place has a reason whose other literals are false by marked places before it
pub record Closes (trail : List Assigned) (clauses : List Clause) (marks : List Mark) (p : ℕ) : Type 0 where
  pub number : ℕ
  pub is : (at trail p).by ≡ Some number
  pub within : number < length clauses
  pub has : Contains (clause clauses number) (at trail p).lit
  pub others : (m : Lit) → Contains (clause clauses number) m → m ≢ (at trail p).lit → IsMarked trail marks p m

-- a place gives way to its reason
pub record Resolves (trail : List Assigned) (clauses : List Clause) (old new : List Mark) (place : ℕ) : Type 0 where
  pub itself : resolved new place ≡ true
  pub grows : (p : ℕ) → p ≢ place → marked old p ≡ true → mark new p ≡ mark old p
  pub fresh : (p : ℕ) → p ≢ place → marked old p ≡ false → marked new p ≡ true → (kept new p ≡ true) × (p < place)
  pub closes : Closes trail clauses new place

-- the places from i on are done: what is kept among them is of a level above 0, and of the greatest level one at most
pub record State (trail : List Assigned) (clauses : List Clause) (marks : List Mark) (level i count : ℕ) : Type 0 where
  pub len : length marks ≡ length trail
  pub counted : count ≡ kept_at trail marks level
  pub some : level ≢ 0 → 0 < count
  pub levels : (p : ℕ) → p < length trail → marked marks p ≡ true → (at trail p).level ≤ level
  pub unresolved : (p : ℕ) → p < i → resolved marks p ≡ false
  pub closed : (p : ℕ) → i ≤ p → p < length trail → resolved marks p ≡ true → Closes trail clauses marks p
  pub ground : (p : ℕ) → i ≤ p → p < length trail → kept marks p ≡ true → (at trail p).level ≢ 0
  pub last : (p : ℕ) → i ≤ p → p < length trail → kept marks p ≡ true → (at trail p).level ≡ level → count ≡ 1

-- ---- what is read off the marks
-- the literals at kept places below n, the last one first
unfoldable pub lits_below : List Assigned → List Mark → ℕ → List Lit
lits_below trail marks zero = []
lits_below trail marks (suc n) = if kept marks n then (at trail n).lit ∷ lits_below trail marks n else lits_below trail marks n

abbrev pub reasons : Option ℕ → List ℕ
reasons None = []
reasons (Some k) = k ∷ []

-- the reasons of the resolved places from q on, `left` places, and the last clause behind them
unfoldable pub hints_from : List Assigned → List Mark → ℕ → ℕ → ℕ → List ℕ
hints_from trail marks last q zero = last ∷ []
hints_from trail marks last q (suc left) = (if resolved marks q then reasons (at trail q).by else []) ++ hints_from trail marks last (suc q) left
