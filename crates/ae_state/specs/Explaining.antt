-- Lines that say the value of a name.
use Rattle.std.specs.Prelude.{ℕ, Bool, List}
use Rattle.ae_core.specs.declared.terms.Term.{Term}
use Rattle.ae_core.specs.declared.proofs.EqLine.{EqLine}
use Rattle.ae_num.specs.declared.forms.Lin.{Lin}
use Rattle.ae_rules.specs.Lines.{equal}
use Rattle.ae_just.specs.Sides.{side_term}
use Rattle.ae_state_steps.specs.ValueSteps.{name_side, value_side}
use Rattle.ae_conflicts.specs.Saying.{EndsWith}

-- the last line states `den * name = sum`, where the sum over den is the value
abbrev pub EndsWithValue : List Term → Bool → ℕ → Lin → List EqLine → Type 0
EndsWithValue ts real n value lines = EndsWith lines (equal (side_term ts (name_side real n value)) (side_term ts (value_side real value)))
