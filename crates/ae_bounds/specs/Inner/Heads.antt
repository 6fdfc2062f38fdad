-- Rows by their largest names.
use Rattle.std.specs.Prelude.{ℕ, suc, ◌<◌, ◌≤◌, ◌≡◌, Option, Some, None, List, length, slice_get}
use Rattle.ae_num.specs.declared.forms.Part.{Part}
use Rattle.ae_ineq.specs.Inner.Sets.{last_part}
use Rattle.ae_bounds.specs.declared.rows.Row.{Row}

-- the row of this number has the largest name n
abbrev pub HasHead : List Row → ℕ → ℕ → Type 0
HasHead rows k n = (r : Row) × (p : Part) × (slice_get rows k ≡ Some r) × (last_part r.lin.parts ≡ Some p) × (p.key ≡ n)

-- none of the rows from number a on, before number b, has it
abbrev pub NoneBetween : List Row → ℕ → ℕ → ℕ → Type 0
NoneBetween rows n a b = (k : ℕ) → a ≤ k → k < b → ¬ HasHead rows k n

-- the last row before number b that has it, or none where there is none
abbrev pub IsLastBefore : List Row → ℕ → ℕ → Option ℕ → Type 0
IsLastBefore rows n b None = NoneBetween rows n 0 b
IsLastBefore rows n b (Some j) = (j < b) × HasHead rows j n × NoneBetween rows n (suc j) b

abbrev pub AreBefore : List Row → List (Option ℕ) → Type 0
AreBefore rows earlier = (k n : ℕ) (o : Option ℕ) → HasHead rows k n → slice_get earlier k ≡ Some o → IsLastBefore rows n k o

-- for each name the last of the first rows that has it, and for each of these rows the one before it that has the same
pub record AreHeads (rows : List Row) (latest : ℕ → Option ℕ) (earlier : List (Option ℕ)) : Type 0 where
  pub last : (n : ℕ) → IsLastBefore rows n (length earlier) (latest n)
  pub before : AreBefore rows earlier

-- the last of the first rows that has the largest name of a row with this last part
abbrev pub IsHeadOf : (ℕ → Option ℕ) → Option Part → Option ℕ → Type 0
IsHeadOf latest None o = o ≡ None
IsHeadOf latest (Some p) o = o ≡ latest p.key

-- the last of the rows before this one that has its largest name
abbrev pub IsHeadAt : List Row → ℕ → Option ℕ → Type 0
IsHeadAt rows place None = (n : ℕ) → HasHead rows place n → NoneBetween rows n 0 place
IsHeadAt rows place (Some j) = (n : ℕ) × HasHead rows place n × IsLastBefore rows n place (Some j)
