-- Two numbers that a trail denies to be equal, and whose order it doesn't have.
use Rattle.std.specs.Prelude.{ℕ, ◌≡◌, List, slice_get, Some}
use Rattle.ae_core.specs.declared.formulas.Formula.{Eq}
use Rattle.ae_core.specs.declared.problems.Signature.{Signature}
use Rattle.ae_explain.specs.declared.trail.Assigned.{Assigned}
use Rattle.ae_journal.specs.declared.systems.System.{System}
use Rattle.ae_num.specs.Forms.{IsNormal}
use Rattle.ae_num.specs.declared.forms.Lin.{Lin}
use Rattle.ae_num.specs.declared.forms.Value.{Number}
use Rattle.ae_order_counts.specs.Counts.{IsOrderOpen}
use Rattle.ae_propagation.specs.Settled.{Holds}
use Rattle.ae_rules.specs.Clauses.{Clause, is_false}
use Rattle.ae_rules.specs.Instances.{trichotomy}
use Rattle.ae_tight_sides.specs.declared.sides.Sides.{Sides}

-- the forms of its numbers are normal
abbrev pub HasNormalForms : System → Type 0
HasNormalForms y = (n : ℕ) (f : Lin) → slice_get y.values n ≡ Some (Number f) → IsNormal f

-- two numbers that are denied to be equal
pub record AreDenied (sig : Signature) (t : List Assigned) (both : Sides) : Type 0 where
  pub unequal : Holds t (is_false (Eq both.left both.right))
  pub numbers : (c : Clause) × (trichotomy sig both.left both.right ≡ Some c)

-- whose order isn't in the trail
abbrev pub IsMeeting : Signature → List Assigned → Sides → Type 0
IsMeeting sig t both = AreDenied sig t both × IsOrderOpen t both.left both.right
