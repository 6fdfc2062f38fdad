-- A number that is put for a name, and steps that are added for the rows in which the name stood.
use Rattle.std.specs.Prelude.{ℕ, Bool, List, [], ◌≡◌, ◌≢◌, ◌*ℤ◌, ◌⊎◌, Some}
use Rattle.std.specs.List.{AllByRecursion}
use native.Mathlib.Decide.{ℕ_discrete}
use Rattle.ae_math.specs.Forms.{substitute}
use Rattle.ae_core.specs.declared.terms.Term.{Term}
use Rattle.ae_core.specs.declared.problems.Signature.{Signature}
use Rattle.ae_linear.specs.declared.rows.Row.{Row}
use Rattle.ae_linear.specs.Rows.{row_at, AreRows}
use Rattle.ae_num.specs.declared.forms.Lin.{Lin}
use Rattle.ae_num.specs.Forms.{meaning, SameMeaning, IsNormal, factor_of}
use Rattle.ae_num.specs.Limits.{FitsLimits}
use Rattle.ae_just.specs.declared.steps.Step.{Step}
use Rattle.ae_just.specs.Steps.{Fits}
use Rattle.ae_settled.specs.Valued.{AreValues, IsOwnNumber}
use Rattle.ae_store.specs.Shapes.{shapes}
use Rattle.ae_store.specs.Stores.{Stored, IsStore}
use Rattle.ae_store.specs.Terms.{terms}
use Rattle.ae_state_steps.specs.ValueSteps.{sort_for, IsWritten, StatesValue}
use Rattle.ae_multiset_steps.specs.Equating.{RestsOnThese}
use Rattle.ae_value_steps.specs.Stating.{IsStated}
use Rattle.ae_value_table.specs.Table.{Contents, just_at, held}
use Rattle.ae_value_fitting.specs.Fitting.{system_in, ArePatterns, AreSaid}
use Rattle.ae_value_fitting.specs.Sources.{RestsOnValues}
use Rattle.ae_values.specs.declared.occurrences.Change.{Change}
use Rattle.ae_values.specs.Inner.Before.{IsChanged}

-- the row of the change's name has a value that a step can state: that of before, which a step states, with the number put for the name
pub record IsRestatable (sig : Signature) (ts : List Term) (steps : List Step) (real : Bool) (name : ℕ) (value : Lin) (c : Contents) (change : Change) : Type 0 where
  pub row : Row
  pub there : row_at c.rows change.name ≡ Some row
  pub written : IsWritten sig ts real change.name row.value
  pub old : Lin
  pub stated : IsStated sig ts steps real change.name old change.before.step
  pub den : change.before.den ≡ old.den
  pub factor : change.before.factor ≡ factor_of old.parts name
  pub put : SameMeaning (meaning row.value) (substitute ℕ_discrete (meaning old) name (meaning value))
  pub within : FitsLimits (change.before.den *ℤ value.den)

-- a step that was added states the row of the name, and rests on these alone
pub record IsRestated (sig : Signature) (ts : List Term) (before after : List Step) (real : Bool) (given : List ℕ) (c : Contents) (n : ℕ) : Type 0 where
  pub row : Row
  pub there : row_at c.rows n ≡ Some row
  pub step : ℕ
  pub just : just_at c n ≡ Some step
  pub stated : IsStated sig ts after real n row.value step
  pub rests : RestsOnThese before after step given

-- a step states the row of the name, and rests on the steps of the old values alone
pub record IsCarried (sig : Signature) (ts : List Term) (before after : List Step) (real : Bool) (old c : Contents) (n : ℕ) : Type 0 where
  pub row : Row
  pub there : row_at c.rows n ≡ Some row
  pub step : ℕ
  pub just : just_at c n ≡ Some step
  pub stated : IsStated sig ts after real n row.value step
  pub rests : RestsOnValues before after old [] step

-- the rows of the changes were restated, and other names have their steps still
pub record AreRestated (sig : Signature) (ts : List Term) (before after : List Step) (real : Bool) (old new : Contents) (changes : List Change) : Type 0 where
  pub done : AllByRecursion (λ change. IsCarried sig ts before after real old new change.name) changes
  pub kept : (n : ℕ) → IsChanged changes n ⊎ (just_at new n ≡ just_at old n)

-- a number that a step states may be put for a name that is its own number
pub record IsPuttable (s : Stored) (steps : List Step) (c : Contents) (name : ℕ) (value : Lin) (just : ℕ) (real : Bool) : Type 0 where
  pub store : IsStore s.signature s.nodes
  pub fits : Fits s.signature (terms (shapes s.nodes)) steps
  pub patterns : ArePatterns s.signature (terms (shapes s.nodes)) (held c)
  pub values : AreValues s.signature (system_in (terms (shapes s.nodes)) c)
  pub said : AreSaid s.signature (terms (shapes s.nodes)) steps c
  pub rows : AreRows (λ n. row_at c.rows n)
  pub own : IsOwnNumber s.signature (system_in (terms (shapes s.nodes)) c) (sort_for real) name
  pub normal : IsNormal value
  pub over : AllByRecursion (λ p. IsOwnNumber s.signature (system_in (terms (shapes s.nodes)) c) (sort_for real) p.key) value.parts
  pub other : AllByRecursion (λ p. p.key ≢ name) value.parts
  pub states : StatesValue steps just real name value
