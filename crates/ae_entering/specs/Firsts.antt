-- Names that get values one after another: the first n names of a list of terms have the numbers and the leaves that their terms give.
use Rattle.std.specs.Prelude.{ℕ, ℤ, ◌<◌, ◌⊎◌, ◌≢◌, Bool, true, false, List, [], ◌≡◌, map, length, slice_get, Some, None}
use Rattle.std.specs.List.{AllByRecursion}
use Rattle.ae_math.specs.Fractions.{ratio}
use Rattle.ae_math.specs.Forms.{Form, number as number_form, single}
use Rattle.ae_core.specs.Sorts.{sort_of, is_numeric}
use Rattle.ae_core.specs.declared.terms.Sort.{Sort}
use Rattle.ae_core.specs.declared.terms.Term.{Term, Num, Apply}
use Rattle.ae_core.specs.declared.terms.Head.{Head}
use Rattle.ae_core.specs.declared.problems.Signature.{Signature}
use Rattle.ae_num.specs.Forms.{meaning, SameMeaning, IsNormal}
use Rattle.ae_num.specs.declared.forms.Lin.{Lin}
use Rattle.ae_journal.specs.Systems.{IsPredicateName, record_fields}
use Rattle.ae_journal.specs.declared.systems.System.{System}
use Rattle.ae_store.specs.Terms.{named}
use Rattle.ae_settled.specs.Valued.{linear_form, with_forms}
use Rattle.ae_value_table.specs.declared.patterns.Entry.{Entry}
use Rattle.ae_value_table.specs.Table.{value_by}
use Rattle.ae_strips.specs.Stripping.{IsFieldOf, StripsTo}

-- the system of terms and of the values that are made of these numbers and leaves
abbrev pub system_by : List Term → List Entry → (ℕ → Lin) → (ℕ → ℕ) → System
system_by ts es number leaf = record { names = ts; values = map (λ e. value_by number leaf e.pattern) es; rules = [] }

-- the name is a field that comes down to itself
pub record IsWholeField (ts : List Term) (k : ℕ) : Type 0 where
  pub type : ℕ
  pub place : ℕ
  pub sorts : List Sort
  pub owner : ℕ
  pub field : IsFieldOf ts k type place sorts owner
  pub whole : StripsTo ts k k

-- the name is one of the first, or such a field
abbrev pub IsKnown : List Term → ℕ → ℕ → Type 0
IsKnown ts n k = (k < n) ⊎ IsWholeField ts k

-- a number of the sort that is its own
pub record IsOwnAt (sig : Signature) (ts : List Term) (n : ℕ) (number : ℕ → Lin) (s : Sort) (k : ℕ) : Type 0 where
  pub within : k < length ts
  pub sort : sort_of sig (named ts k) ≡ Some s
  pub own : SameMeaning (meaning (number k)) (single k)
  pub known : IsKnown ts n k

-- a number in the normal form, over such names
pub record IsNumberAt (sig : Signature) (ts : List Term) (n : ℕ) (number : ℕ → Lin) (s : Sort) (f : Lin) : Type 0 where
  pub normal : IsNormal f
  pub over : AllByRecursion (λ p. IsOwnAt sig ts n number s p.key) f.parts

-- a name of the sort that is its own leaf
pub record IsLeafAt (sig : Signature) (ts : List Term) (n : ℕ) (leaf : ℕ → ℕ) (s : Sort) (m : ℕ) : Type 0 where
  pub within : m < length ts
  pub sort : sort_of sig (named ts m) ≡ Some s
  pub own : leaf m ≡ m
  pub known : IsKnown ts n m

pub record AreFirst (sig : Signature) (ts : List Term) (n : ℕ) (number : ℕ → Lin) (leaf : ℕ → ℕ) : Type 0 where
  pub numbers : (k : ℕ) (s : Sort) → k < n → sort_of sig (named ts k) ≡ Some s → is_numeric s ≡ true → IsNumberAt sig ts n number s (number k)
  pub leaves : (k : ℕ) (s : Sort) → k < n → sort_of sig (named ts k) ≡ Some s → is_numeric s ≡ false → record_fields sig s ≡ None → IsLeafAt sig ts n leaf s (leaf k)
  pub predicates : (k : ℕ) → k < n → IsPredicateName sig (named ts k) → leaf k ≡ k
  -- what is computed
  pub numerals : (k : ℕ) (a b : ℤ) (real : Bool) → k < n → slice_get ts k ≡ Some (Num a b real) → SameMeaning (meaning (number k)) (number_form (ratio a b))
  pub operations : (k : ℕ) (h : Head) (ss : List Sort) (args : List ℕ) (g : Form ℕ) → k < n → AllByRecursion (λ a. a < k) args → slice_get ts k ≡ Some (Apply h ss (map (named ts) args))
      → linear_form h (with_forms (map (named ts) args) (map number args)) ≡ Some g → SameMeaning (meaning (number k)) g
  -- what fields come down to
  pub covered_numbers : (k m : ℕ) (s : Sort) → k < n → StripsTo ts k m → sort_of sig (named ts k) ≡ Some s → is_numeric s ≡ true → number k ≡ number m
  pub covered_leaves : (k m : ℕ) (s : Sort) → k < n → StripsTo ts k m → sort_of sig (named ts k) ≡ Some s → is_numeric s ≡ false → record_fields sig s ≡ None → leaf k ≡ leaf m

-- ---- one name more
-- the number v and the leaf m are what the term of the next name gives it, by those of the first names
pub record IsNext (sig : Signature) (ts : List Term) (n : ℕ) (number : ℕ → Lin) (leaf : ℕ → ℕ) (v : Lin) (m : ℕ) : Type 0 where
  pub whole : IsWholeField ts n → (v ≡ number n) × (m ≡ leaf n)
  pub numbers : (s : Sort) → sort_of sig (named ts n) ≡ Some s → is_numeric s ≡ true → IsNormal v
      × AllByRecursion (λ p. IsOwnAt sig ts n number s p.key ⊎ ((p.key ≡ n) × SameMeaning (meaning v) (single n))) v.parts
  pub leaves : (s : Sort) → sort_of sig (named ts n) ≡ Some s → is_numeric s ≡ false → record_fields sig s ≡ None → IsLeafAt sig ts n leaf s m ⊎ (m ≡ n)
  pub predicates : IsPredicateName sig (named ts n) → m ≡ n
  pub numerals : (a b : ℤ) (real : Bool) → slice_get ts n ≡ Some (Num a b real) → SameMeaning (meaning v) (number_form (ratio a b))
  pub operations : (h : Head) (ss : List Sort) (args : List ℕ) (g : Form ℕ) → AllByRecursion (λ a. a < n) args → slice_get ts n ≡ Some (Apply h ss (map (named ts) args))
      → linear_form h (with_forms (map (named ts) args) (map number args)) ≡ Some g → SameMeaning (meaning v) g
  pub covered_numbers : (k : ℕ) (s : Sort) → StripsTo ts n k → k ≢ n → sort_of sig (named ts n) ≡ Some s → is_numeric s ≡ true → v ≡ number k
  pub covered_leaves : (k : ℕ) (s : Sort) → StripsTo ts n k → k ≢ n → sort_of sig (named ts n) ≡ Some s → is_numeric s ≡ false → record_fields sig s ≡ None → m ≡ leaf k
