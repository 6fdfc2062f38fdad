-- Inequality literals between names, and lines that say the value of a name.
use Rattle.std.specs.Prelude.{ℕ, suc, Bool, List, [], ◌≡◌, length, slice_get, Some}
use Rattle.std.specs.List.{AllByRecursion}
use Rattle.ae_core.specs.declared.terms.Term.{Term}
use Rattle.ae_core.specs.declared.formulas.Lit.{Lit}
use Rattle.ae_core.specs.declared.problems.Signature.{Signature}
use Rattle.ae_core.specs.declared.proofs.Deriv.{Deriv}
use Rattle.ae_num.specs.declared.forms.Lin.{Lin}
use Rattle.ae_rules.specs.Built.{IsBuiltEquation}
use Rattle.ae_rules.specs.Lines.{equal, Stated, AllAllowed, fact_ok}
use Rattle.ae_journal.specs.States.{inequality}
use Rattle.ae_just.specs.Sides.{side_term}
use Rattle.ae_state_steps.specs.ValueSteps.{name_side, value_side, IsWritten}

-- the literal says that the lower name is below the upper one where it is strict, otherwise at most that
pub record IsBetween (ts : List Term) (l : Lit) (strict : Bool) (upper lower : ℕ) : Type 0 where
  pub above : Term
  pub below : Term
  pub is : inequality l ≡ Some (above, below, strict)
  pub upper_is : slice_get ts upper ≡ Some above
  pub lower_is : slice_get ts lower ≡ Some below

-- allowed lines, each an equation of terms that are built of the names, of which the last says that the name has this value, over names of its sort
pub record IsTold (sig : Signature) (ts : List Term) (real : Bool) (n : ℕ) (value : Lin) (why : Deriv) : Type 0 where
  pub allowed : AllAllowed sig (fact_ok sig) why.hyps [] why.lines
  pub last : ℕ
  pub long : length why.lines ≡ suc last
  pub says : Stated why.lines last (equal (side_term ts (name_side real n value)) (side_term ts (value_side real value)))
  pub written : IsWritten sig ts real n value
  pub built : AllByRecursion (IsBuiltEquation sig ts) why.lines
