-- Two names of numbers of which a step states that they are equal, and the step that their difference is 0.
use Rattle.std.specs.Prelude.{ℕ, ◌<◌, ◌≡◌, Bool, false, length}
use Rattle.ae_math.specs.Forms.{minus}
use Rattle.ae_num.specs.Forms.{meaning, SameMeaning}
use Rattle.ae_num.specs.declared.forms.Lin.{Lin}
use Rattle.ae_pmap.specs.Forest.{present}
use Rattle.ae_store.specs.Stores.{Stored}
use Rattle.ae_state_steps.specs.ValueSteps.{IsWritten, IsFormOver, StatesEqual, StatesZero}
use Rattle.ae_theory.specs.Names.{terms_in}
use Rattle.ae_value_table.specs.Table.{number_at}
use Rattle.ae_value_table.specs.Alike.{alike}
use Rattle.ae_conflicts.specs.Saying.{RestsOnAssumed}
use Rattle.ae_state.specs.declared.holding.Holding.{Holding}
use Rattle.ae_state.specs.Names.{all_terms}
use Rattle.ae_turns.specs.Representing.{IsTaken}

-- two different numbers of one sort that a step equates, which rests on assumed literals
pub record AreEquated (s : Stored) (o : Holding) (real : Bool) (left right equal : ℕ) : Type 0 where
  pub taken : IsTaken o s
  pub left_within : left < length s.nodes
  pub right_within : right < length s.nodes
  pub left_written : IsWritten s.signature (terms_in s) real left (number_at o.values left)
  pub right_written : IsWritten s.signature (terms_in s) real right (number_at o.values right)
  pub apart : alike o.values left right ≡ false
  pub states : StatesEqual o.justs equal left right
  pub rests : RestsOnAssumed (all_terms o) o.justs (present o.assumed) equal

-- the form is the difference of the two, and a step that rests on assumed literals states that it is 0
pub record IsDifference (s : Stored) (o : Holding) (real : Bool) (left right : ℕ) (form : Lin) (zero : ℕ) : Type 0 where
  pub means : SameMeaning (meaning form) (minus (meaning (number_at o.values left)) (meaning (number_at o.values right)))
  pub over : IsFormOver s.signature (terms_in s) real form
  pub states : StatesZero o.justs zero real form
  pub rests : RestsOnAssumed (all_terms o) o.justs (present o.assumed) zero

-- of some two such numbers
pub record IsSomeDifference (s : Stored) (o : Holding) (real : Bool) (form : Lin) (zero : ℕ) : Type 0 where
  pub left : ℕ
  pub right : ℕ
  pub equal : ℕ
  pub equated : AreEquated s o real left right equal
  pub difference : IsDifference s o real left right form zero
