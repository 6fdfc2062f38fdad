-- Which assumptions the steps that say the values of names rest on.
use Rattle.std.specs.Prelude.{ℕ, ◌≡◌, ◌⊎◌, List, slice_get, Some}
use Rattle.ae_linear.specs.declared.rows.Row.{Row}
use Rattle.ae_linear.specs.Rows.{row_at}
use Rattle.ae_pmap.specs.Forest.{present}
use Rattle.ae_pmap.specs.Pairs.{found}
use Rattle.ae_store.specs.Parts.{IsIn}
use Rattle.ae_just.specs.Needed.{RestsOn}
use Rattle.ae_just.specs.declared.steps.Rule.TheVariants as rule
use Rattle.ae_just.specs.declared.steps.Step.{Step}
use Rattle.ae_value_table.specs.Table.{Contents, just_at}

-- a number or a leaf was put for the name
pub data IsPutFor (c : Contents) (n : ℕ) : Type 0 where
  by_number : (row : Row) → row_at c.rows n ≡ Some row → IsPutFor c n
  by_leaf : (m : ℕ) → found (present c.leaves) n ≡ Some m → IsPutFor c n

-- the step of this number says the number or the leaf of a name
pub record SaysValue (c : Contents) (k : ℕ) : Type 0 where
  pub name : ℕ
  pub put : IsPutFor c name
  pub just : just_at c name ≡ Some k

-- the step of number k stood, and one that says a value, or one of `more`, rests on it
pub record IsUnderValues (steps : List Step) (c : Contents) (more : List ℕ) (k : ℕ) (s : Step) : Type 0 where
  pub by : ℕ
  pub one : IsIn by more ⊎ SaysValue c by
  pub rests : RestsOn steps by k
  pub there : slice_get steps k ≡ Some s

-- each assumption on which the step of number id of new rests is one on which, of the steps of old, one that says a value rests, or one of `more`
pub record RestsOnValues (old new : List Step) (c : Contents) (more : List ℕ) (id : ℕ) : Type 0 where
  pub each : (k tag : ℕ) (s : Step) → RestsOn new id k → slice_get new k ≡ Some s → s.rule ≡ rule.Hyp tag → IsUnderValues old c more k s

-- so does each step that says a value of d
pub record AreFromValues (old new : List Step) (c d : Contents) (more : List ℕ) : Type 0 where
  pub each : (id : ℕ) → SaysValue d id → RestsOnValues old new c more id
