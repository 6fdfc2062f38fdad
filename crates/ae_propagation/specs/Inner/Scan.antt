-- What a scan of clauses finds.
use Rattle.std.specs.Prelude.{◌≡◌, ℕ, ◌+◌, ◌<◌, ◌⊎◌, List, [], ◌∷◌, ◌++◌, length, slice_index_or, Option, Some, None}
use Rattle.ae_rules.specs.Clauses.{Clause}
use Rattle.ae_core.specs.declared.formulas.Lit.{Lit}
use Rattle.ae_explain.specs.declared.trail.Assigned.{Assigned}
use Rattle.ae_explain.specs.Trail.{place_in, clause, IsFalse, AreFalse, IsLawful}
use Rattle.ae_propagation.specs.Settled.{HasTrue, AreOpen, IsOpenAlone, Grown}
use Rattle.ae_propagation.specs.declared.settle.Work.{Work}
use Rattle.ae_propagation.specs.declared.settle.Work.TheVariants.{Conflict, Push, Nothing}

-- the literal at k isn't false
pub record IsNotFalse (t : List Assigned) (c : Clause) (k : ℕ) : Type 0 where
  pub within : k < length c
  pub not_false : (w : Lit) → ¬ IsFalse t (slice_index_or c k w)

-- it has a true literal, or two without a value
abbrev pub IsIdle : List Assigned → Clause → Type 0
IsIdle t c = HasTrue t c ⊎ AreOpen t c

-- what there is to do, in the first n clauses
abbrev pub Finds : List Assigned → List Clause → ℕ → Work → Type 0
Finds t clauses n (Conflict k) = (k < length clauses) × AreFalse t (clause clauses k)
Finds t clauses n (Push k p) = (k < length clauses) × IsOpenAlone t (clause clauses k) p
Finds t clauses n Nothing = (k : ℕ) → k < n → IsIdle t (clause clauses k)

-- how many literals of clauses have no value
abbrev pub open_one : Option ℕ → ℕ
open_one None = 1
open_one (Some p) = 0

abbrev pub open_in : List Assigned → Clause → ℕ
open_in t [] = 0
open_in t (m ∷ c) = open_one (place_in t m.formula) + open_in t c

abbrev pub open_all : List Assigned → List Clause → ℕ
open_all t [] = 0
open_all t (c ∷ cs) = open_in t c + open_all t cs

-- what clause k makes true by its literal at p
pub record IsUnitStep (t : List Assigned) (clauses : List Clause) (k p : ℕ) (a : Assigned) : Type 0 where
  pub lit : (w : Lit) → slice_index_or (clause clauses k) p w ≡ a.lit
  pub new : place_in t a.lit.formula ≡ None
  pub lawful : IsLawful (t ++ a ∷ []) clauses
  pub grown : (first : List Assigned) → Grown first t → Grown first (t ++ a ∷ [])
  pub falls : open_all (t ++ a ∷ []) clauses < open_all t clauses
  pub made : HasTrue (t ++ a ∷ []) (clause clauses k)
