-- The two terms whose order a row of a tight sum asks for.
use Rattle.std.specs.Prelude.{Bool, true, List, [], ◌≡◌, ◌≢◌, Some}
use Rattle.std.specs.List.{Contains}
use Rattle.ae_core.specs.declared.formulas.Lit.{Lit}
use Rattle.ae_core.specs.declared.terms.Sort.{Int}
use Rattle.ae_core.specs.declared.terms.Term.{Term}
use Rattle.ae_inequalities.specs.declared.rows.Row.{Row}
use Rattle.ae_journal.specs.Sides.{side, other_side}
use Rattle.ae_journal.specs.States.{inequality}
use Rattle.ae_tight_sides.specs.declared.sides.Sides.{Sides}

-- those of a row over integers, or of an inequality literal that is one of the row's hypotheses
pub data AreSidesOf (ts : List Term) (r : Row) (both : Sides) : Type 0 where
  of_row : r.integral ≡ true → r.lin.parts ≢ [] → both.left ≡ other_side Int ts r.lin → both.right ≡ side Int ts r.lin → AreSidesOf ts r both
  of_literal : (l : Lit) (strict : Bool) → Contains r.from.deriv.hyps l → inequality l ≡ Some (both.right, both.left, strict) → AreSidesOf ts r both
