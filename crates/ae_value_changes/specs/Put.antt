-- A value put for a name in all values.
use Rattle.std.specs.Prelude.{ℕ, ◌≡◌, ◌≢◌, true, cond, nat_eq, List, length, slice_get, Some}
use Rattle.std.specs.List.{AllByRecursion}
use native.Mathlib.Decide.{ℕ_discrete}
use Rattle.ae_math.specs.Forms.{substitute}
use Rattle.ae_core.specs.Sorts.{sort_of, is_numeric}
use Rattle.ae_core.specs.declared.terms.Sort.{Sort}
use Rattle.ae_core.specs.declared.terms.Term.{Term}
use Rattle.ae_core.specs.declared.problems.Signature.{Signature}
use Rattle.ae_num.specs.Forms.{meaning, SameMeaning, IsNormal}
use Rattle.ae_num.specs.declared.forms.Lin.{Lin}
use Rattle.ae_num.specs.declared.forms.Value.{Value, Leaf, Number}
use Rattle.ae_journal.specs.Systems.{IsName, record_fields, field_terms}
use Rattle.ae_journal.specs.declared.systems.System.{System}
use Rattle.ae_store.specs.Stores.{IsStore}
use Rattle.ae_settled.specs.Held.{Held, system_of}
use Rattle.ae_settled.specs.Valued.{AreValues, AreFields, IsOwnNumber, IsOwnLeaf}

-- the same names with these values
abbrev pub with_values : Held → List Value → Held
with_values x vs = record { signature = x.signature; nodes = x.nodes; values = vs; rep = x.rep; rules = x.rules; next = x.next }

-- records have the values of their fields again
abbrev pub HasRecords : Signature → System → Type 0
HasRecords sig y = (n : ℕ) (t : Term) (s : Sort) (ss : List Sort) (v : Value) → IsName y n t → sort_of sig t ≡ Some s → slice_get y.values n ≡ Some v → record_fields sig s ≡ Some ss → AreFields y (field_terms s t (length ss)) v

-- ---- a number
-- the number q, over other names of the sort that are their own values, is put for the name
pub record IsNumberPut (x : Held) (s : Sort) (name : ℕ) (q : Lin) (vs : List Value) : Type 0 where
  pub one_each : length vs ≡ length x.values
  pub own : IsOwnNumber x.signature (system_of x) s name
  pub numeric : is_numeric s ≡ true
  pub normal : IsNormal q
  pub over : AllByRecursion (λ p. IsOwnNumber x.signature (system_of x) s p.key) q.parts
  pub other : AllByRecursion (λ p. p.key ≢ name) q.parts
  pub numbers : (n : ℕ) (f : Lin) → slice_get x.values n ≡ Some (Number f) → (g : Lin) × (slice_get vs n ≡ Some (Number g)) × IsNormal g × SameMeaning (meaning g) (substitute ℕ_discrete (meaning f) name (meaning q))
  pub leaves : (n k : ℕ) → slice_get x.values n ≡ Some (Leaf k) → slice_get vs n ≡ Some (Leaf k)
  pub records : HasRecords x.signature (system_of (with_values x vs))

abbrev pub NumbersPut : Type 0
NumbersPut = (x : Held) (s : Sort) (name : ℕ) (q : Lin) (vs : List Value) → IsStore x.signature x.nodes → AreValues x.signature (system_of x) → IsNumberPut x s name q vs
    → AreValues x.signature (system_of (with_values x vs))

-- ---- a name of another sort
-- the name m is put for the name, where both are their own values
abbrev pub put_leaf : ℕ → ℕ → ℕ → ℕ
put_leaf name m k = cond (nat_eq k name) m k

pub record IsLeafPut (x : Held) (s : Sort) (name m : ℕ) (vs : List Value) : Type 0 where
  pub one_each : length vs ≡ length x.values
  pub own : IsOwnLeaf x.signature (system_of x) s name
  pub over : IsOwnLeaf x.signature (system_of x) s m
  pub differ : m ≢ name
  pub numbers : (n : ℕ) (f : Lin) → slice_get x.values n ≡ Some (Number f) → slice_get vs n ≡ Some (Number f)
  pub leaves : (n k : ℕ) → slice_get x.values n ≡ Some (Leaf k) → slice_get vs n ≡ Some (Leaf (put_leaf name m k))
  pub records : HasRecords x.signature (system_of (with_values x vs))

abbrev pub LeavesPut : Type 0
LeavesPut = (x : Held) (s : Sort) (name m : ℕ) (vs : List Value) → IsStore x.signature x.nodes → AreValues x.signature (system_of x) → IsLeafPut x s name m vs
    → AreValues x.signature (system_of (with_values x vs))
