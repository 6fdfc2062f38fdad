-- Pairs of rows at places, and the last parts of their forms.
use Rattle.std.specs.Prelude.{ℕ, ◌<◌, ◌≤◌, length, pos, ◌<ℤ◌, ◌≡◌, ◌⊎◌, List, [], ◌∷◌, ◌++◌, Option, Some, slice_get}
use Rattle.ae_num.specs.declared.forms.Lin.{Lin}
use Rattle.ae_num.specs.Forms.{first_wide, combine_steps}
use Rattle.ae_journal.specs.declared.answers.NumStep.TheVariants.{Combine}
use Rattle.ae_journal.specs.declared.answers.WideAt.{WideAt}
use Rattle.ae_ineq.specs.Inner.Sets.{last_part}
use Rattle.ae_bounds.specs.declared.rows.Row.{Row}
use Rattle.ae_bounds.specs.declared.directions.Direction.{Direction}
use Rattle.ae_bounds.specs.Inner.Directions.{AreIndexed}
use Rattle.ae_bounds.specs.declared.combining.Opposed.{Opposed}
use Rattle.ae_bounds.specs.Combinations.{IsCombinationOf, IsDone}
use Rattle.ae_bounds.specs.Rounding.{AreRounded, AreSettled}
use Rattle.ae_bounds.specs.Findings.{AreFounded}
use Rattle.ae_bounds.specs.Inner.Heads.{AreHeads}

-- the name is the last one of both forms, with these factors
pub record HaveLast (lower upper : Lin) (o : Opposed) : Type 0 where
  pub first : last_part lower.parts ≡ Some (record { key = o.name; factor = o.rising })
  pub second : last_part upper.parts ≡ Some (record { key = o.name; factor = o.falling })
  pub positive : pos 0 <ℤ o.rising
  pub negative : o.falling <ℤ pos 0

-- the width is the first of the combination of these forms
pub record IsCombineWide (lower upper : Lin) (name : ℕ) (w : WideAt) : Type 0 where
  pub step : w.step ≡ Combine
  pub left : w.left ≡ lower
  pub key : w.key ≡ Some name
  pub right : w.right ≡ upper
  pub wide : first_wide (combine_steps lower name upper) ≡ Some w.wide

-- the row is the combination of rows number i and j, where these can be combined
pub record IsMadeOf (rows : List Row) (i j : ℕ) (r : Row) : Type 0 where
  pub each : (p q : Row) (o : Opposed) → slice_get rows i ≡ Some p → slice_get rows j ≡ Some q → HaveLast p.lin q.lin o → IsCombinationOf p q o.name r

-- where rows number i and j can be combined, these rows have their combination
abbrev pub IsPairThere : List Row → ℕ → ℕ → List Row → Type 0
IsPairThere rows i j new = (p q : Row) (o : Opposed) → slice_get rows i ≡ Some p → slice_get rows j ≡ Some q → HaveLast p.lin q.lin o → IsDone new p q o.name

-- so it is with a row and the first t rows, both ways
abbrev pub ArePaired : List Row → ℕ → ℕ → List Row → Type 0
ArePaired rows place t new = (k : ℕ) → k < t → IsPairThere rows place k new × IsPairThere rows k place new

-- so it is with the first k rows
abbrev pub AreClosedBelow : ℕ → List Row → Type 0
AreClosedBelow k rows = (i j : ℕ) → i < k → j < k → IsPairThere rows i j rows

-- the state of an object: rows with their directions, each combination one of rows before it, and the first rows, which have all their combinations, by their largest names
pub record IsKept (rows : List Row) (ds : List Direction) (latest : ℕ → Option ℕ) (earlier : List (Option ℕ)) : Type 0 where
  pub indexed : AreIndexed rows ds
  pub within : length earlier ≤ length rows
  pub founded : AreFounded rows
  pub rounded : AreRounded rows
  pub settled : AreSettled rows
  pub heads : AreHeads rows latest earlier
  pub pairs : AreClosedBelow (length earlier) rows

-- the same rows, or one more
abbrev pub IsOneMore : List Row → List Row → Type 0
IsOneMore rows new = (new ≡ rows) ⊎ ((r : Row) × (new ≡ rows ++ r ∷ []))
