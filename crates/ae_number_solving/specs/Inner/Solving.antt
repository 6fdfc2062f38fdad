-- A number that is to be put for a name.
use Rattle.std.specs.Prelude.{ℕ, ◌≢◌, Bool}
use Rattle.std.specs.List.{AllByRecursion}
use Rattle.ae_num.specs.Forms.{IsNormal}
use Rattle.ae_num.specs.declared.forms.Lin.{Lin}
use Rattle.ae_pmap.specs.Forest.{present}
use Rattle.ae_store.specs.Stores.{Stored}
use Rattle.ae_settled.specs.Valued.{IsOwnNumber}
use Rattle.ae_state_steps.specs.ValueSteps.{sort_for, StatesValue}
use Rattle.ae_theory.specs.Names.{terms_in}
use Rattle.ae_value_fitting.specs.Fitting.{system_in}
use Rattle.ae_conflicts.specs.Saying.{RestsOnAssumed}
use Rattle.ae_state.specs.declared.holding.Holding.{Holding}
use Rattle.ae_state.specs.Names.{all_terms}
use Rattle.ae_turns.specs.Representing.{IsTaken}

-- the name and those of the number are their own numbers, and a step that rests on assumed literals states that the name is the number
pub record MayBePut (s : Stored) (o : Holding) (real : Bool) (name : ℕ) (number : Lin) (just : ℕ) : Type 0 where
  pub taken : IsTaken o s
  pub own : IsOwnNumber s.signature (system_in (terms_in s) o.values) (sort_for real) name
  pub normal : IsNormal number
  pub over : AllByRecursion (λ p. IsOwnNumber s.signature (system_in (terms_in s) o.values) (sort_for real) p.key) number.parts
  pub other : AllByRecursion (λ p. p.key ≢ name) number.parts
  pub states : StatesValue o.justs just real name number
  pub rests : RestsOnAssumed (all_terms o) o.justs (present o.assumed) just
