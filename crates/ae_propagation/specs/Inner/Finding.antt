-- The clauses that have a literal, found by its formula's number.
use Rattle.std.specs.Prelude.{◌≡◌, ℕ, suc, ◌<◌, ◌≤◌, ◌⊎◌, Bool, cond, List, [], ◌∷◌, ◌++◌, length, slice_index_or, Option, Some, None}
use Rattle.ae_rules.specs.Clauses.{Clause, stands}
use Rattle.ae_core.specs.declared.formulas.Formula.{Formula}
use Rattle.ae_core.specs.declared.formulas.Lit.{Lit}
use Rattle.ae_explain.specs.Assignments.{AreKept}
use Rattle.ae_propagation.specs.declared.occurrences.Occurrences.{Occurrences}

-- the numbers of the clauses that have a literal, rising, where the first clause has number n
abbrev pub holders_from : ℕ → List Clause → Lit → List ℕ
holders_from n [] l = []
holders_from n (c ∷ cs) l = cond (stands c l) (n ∷ []) [] ++ holders_from (suc n) cs l

abbrev pub holders : List Clause → Lit → List ℕ
holders clauses l = holders_from 0 clauses l

-- ---- one list of numbers
-- n is the last one
abbrev pub EndsIn : ℕ → List ℕ → Type 0
EndsIn n xs = (front : List ℕ) × (xs ≡ front ++ n ∷ [])

-- n is put at the end, unless it is the last one
abbrev pub IsPut : ℕ → List ℕ → List ℕ → Type 0
IsPut n xs ys = (EndsIn n xs × (ys ≡ xs)) ⊎ ((EndsIn n xs → ⊥) × (ys ≡ xs ++ n ∷ []))

-- n is taken away, if it is the last one
abbrev pub IsTaken : ℕ → List ℕ → List ℕ → Type 0
IsTaken n xs ys = (xs ≡ ys ++ n ∷ []) ⊎ ((EndsIn n xs → ⊥) × (ys ≡ xs))

-- ---- the lists of all literals
abbrev pub side : Bool → Occurrences → List ℕ
side b o = cond b o.positive o.negative

abbrev pub none_listed : Occurrences
none_listed = record { positive = []; negative = [] }

abbrev pub occurrences_at : List Occurrences → Option ℕ → Occurrences
occurrences_at table None = none_listed
occurrences_at table (Some n) = slice_index_or table n none_listed

-- the list of a literal
abbrev pub listed : (Formula → Option ℕ) → List Occurrences → Lit → List ℕ
listed numbers table l = side l.positive (occurrences_at table (numbers l.formula))

-- each formula that has a number has its own place
pub record IsTable (numbers : Formula → Option ℕ) (table : List Occurrences) : Type 0 where
  pub within : (f : Formula) (n : ℕ) → numbers f ≡ Some n → n < length table
  pub apart : (f g : Formula) (n : ℕ) → numbers f ≡ Some n → numbers g ≡ Some n → f ≡ g

-- formulas may have got numbers, and the table may have got places; the lists stay
pub record IsWidened (old : Formula → Option ℕ) (before : List Occurrences) (new : Formula → Option ℕ) (after : List Occurrences) : Type 0 where
  pub is_table : IsTable new after
  pub same : (l : Lit) → listed new after l ≡ listed old before l
  pub kept : AreKept old new

-- each literal leads to the numbers of the clauses that have it
abbrev pub AreListed : (Lit → List ℕ) → List Clause → Type 0
AreListed list clauses = (l : Lit) → list l ≡ holders clauses l

-- ---- while a clause comes in or goes, that gets or has the number behind those of the others
-- it has the literal among its first i
abbrev pub HasBefore : Clause → ℕ → Lit → Type 0
HasBefore c i l = (j : ℕ) × (j < i) × (j < length c) × (slice_index_or c j l ≡ l)

-- it has it among the others
abbrev pub HasFrom : Clause → ℕ → Lit → Type 0
HasFrom c i l = (j : ℕ) × (i ≤ j) × (j < length c) × (slice_index_or c j l ≡ l)

-- its first i literals lead to it
abbrev pub AreEntered : (Lit → List ℕ) → List Clause → Clause → ℕ → Type 0
AreEntered list clauses c i =
    (l : Lit) → ((list l ≡ holders clauses l) × (HasBefore c i l → ⊥)) ⊎ ((list l ≡ holders clauses l ++ length clauses ∷ []) × HasBefore c i l)

-- at most the others than its first i literals lead to it
abbrev pub AreLeft : (Lit → List ℕ) → List Clause → Clause → ℕ → Type 0
AreLeft list clauses c i = (l : Lit) → (list l ≡ holders clauses l) ⊎ ((list l ≡ holders clauses l ++ length clauses ∷ []) × HasFrom c i l)
