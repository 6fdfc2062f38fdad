-- Literals as numbers.
use Rattle.std.specs.Prelude.{◌≡◌, ◌≢◌, ℕ, ◌<◌, Bool, not, List, [], length, slice_index_or, Option, Some, None}
use Rattle.std.specs.List.{Contains}
use Rattle.ae_rules.specs.Clauses.{Clause}
use Rattle.ae_core.specs.declared.formulas.Formula.{Formula}
use Rattle.ae_core.specs.declared.formulas.Lit.{Lit}
use Rattle.ae_explain.specs.Inner.Index.{value_at}
use Rattle.ae_explain.specs.Trail.{clause}
use Rattle.ae_propagation.specs.Inner.Finding.{IsTable, listed, AreListed}
use Rattle.ae_propagation.specs.declared.codes.Code.{Code}
use Rattle.ae_propagation.specs.declared.coded.Coded.{Coded}
use Rattle.ae_propagation.specs.declared.settle.ClauseState.{ClauseState}
use Rattle.ae_propagation.specs.declared.settle.ClauseState.TheVariants as state

-- ---- clauses
-- the code has the number of the literal's formula, and its sign
abbrev pub IsCode : (Formula → Option ℕ) → Lit → Code → Type 0
IsCode numbers l k = (numbers l.formula ≡ Some k.number) × (l.positive ≡ k.positive)

-- the codes of a clause's literals, in their order
pub record AreCodes (numbers : Formula → Option ℕ) (c : Clause) (ks : List Code) : Type 0 where
  pub size : length ks ≡ length c
  pub each : (i : ℕ) (l : Lit) (k : Code) → i < length c → IsCode numbers (slice_index_or c i l) (slice_index_or ks i k)

pub record AreAllCodes (numbers : Formula → Option ℕ) (clauses : List Clause) (codes : List (List Code)) : Type 0 where
  pub size : length codes ≡ length clauses
  pub each : (n : ℕ) → n < length clauses → AreCodes numbers (clause clauses n) (slice_index_or codes n [])

pub record IsCoded (numbers : Formula → Option ℕ) (c : Coded) : Type 0 where
  pub is_table : IsTable numbers c.table.items
  pub each : AreListed (listed numbers c.table.items) c.clauses
  pub codes : AreAllCodes numbers c.clauses c.codes

-- ---- how codes stand to values
-- the one at p is true
pub record IsTrueCode (values : List (Option Bool)) (ks : List Code) (p : ℕ) : Type 0 where
  pub within : p < length ks
  pub holds : (w : Code) → value_at values (slice_index_or ks p w).number ≡ Some (slice_index_or ks p w).positive

-- the one at p isn't false
pub record IsNotFalseCode (values : List (Option Bool)) (ks : List Code) (p : ℕ) : Type 0 where
  pub within : p < length ks
  pub not_false : (w : Code) → value_at values (slice_index_or ks p w).number ≢ Some (not (slice_index_or ks p w).positive)

pub record IsUnitCode (values : List (Option Bool)) (ks : List Code) (p : ℕ) : Type 0 where
  pub code : Code
  pub within : p < length ks
  pub is : (w : Code) → slice_index_or ks p w ≡ code
  pub no_value : value_at values code.number ≡ None
  pub others : (k : Code) → Contains ks k → k ≢ code → value_at values k.number ≡ Some (not k.positive)

pub record AreOpenCodes (values : List (Option Bool)) (ks : List Code) : Type 0 where
  pub one : Code
  pub other : Code
  pub has : Contains ks one
  pub has_other : Contains ks other
  pub differ : one ≢ other
  pub open_one : value_at values one.number ≡ None
  pub open_other : value_at values other.number ≡ None

abbrev pub HasTrueCode : List (Option Bool) → List Code → Type 0
HasTrueCode values ks = (k : Code) × Contains ks k × (value_at values k.number ≡ Some k.positive)

abbrev pub SaysCodes : List (Option Bool) → List Code → ClauseState → Type 0
SaysCodes values ks state.True = HasTrueCode values ks
SaysCodes values ks state.False = (k : Code) → Contains ks k → value_at values k.number ≡ Some (not k.positive)
SaysCodes values ks (state.Unit p) = IsUnitCode values ks p
SaysCodes values ks state.Open = AreOpenCodes values ks
