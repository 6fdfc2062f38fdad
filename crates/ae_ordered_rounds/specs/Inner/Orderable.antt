-- Two numbers whose order may come in.
use Rattle.std.specs.Prelude.{ℕ, ◌≡◌, Bool, List, Some, None}
use Rattle.std.specs.List.{AllByRecursion}
use Rattle.ae_added_orders.specs.Ordering.{MayBeOrdered}
use Rattle.ae_between_rounds.specs.declared.search.Search.{Search}
use Rattle.ae_core.specs.declared.formulas.Lit.{Lit}
use Rattle.ae_core.specs.declared.problems.Problem.{Problem}
use Rattle.ae_core.specs.declared.terms.Term.{Term}
use Rattle.ae_explain.specs.declared.trail.Assigned.{Assigned}
use Rattle.ae_inequalities.specs.Rows.{IsRightRow}
use Rattle.ae_inequalities.specs.declared.rows.Row.{Row}
use Rattle.ae_journal.specs.States.{inequality}
use Rattle.ae_num.specs.Forms.{IsNormal}
use Rattle.ae_propagation.specs.Settled.{Holds}
use Rattle.ae_rules.specs.Clauses.{Clause}
use Rattle.ae_rules.specs.Instances.{trichotomy}
use Rattle.ae_store.specs.Stores.{Stored}
use Rattle.ae_theory.specs.Names.{terms_in}
use Rattle.ae_tight_sides.specs.Sides.{AreSidesOf}
use Rattle.ae_tight_sides.specs.declared.sides.Sides.{Sides}

-- ---- inequalities
-- the literal says that the one isn't above the other, or is below it
abbrev pub IsInequality : Lit → Sides → Type 0
IsInequality l both = (strict : Bool) × (inequality l ≡ Some (both.right, both.left, strict))

-- one that is true in the trail
pub record IsTrueInequality (t : List Assigned) (both : Sides) : Type 0 where
  pub literal : Lit
  pub strict : Bool
  pub holds : Holds t literal
  pub is : inequality literal ≡ Some (both.right, both.left, strict)

abbrev pub HasInequality : List Assigned → Type 0
HasInequality t = (both : Sides) × IsTrueInequality t both

abbrev pub HasNoInequality : List Assigned → Type 0
HasNoInequality t = (l : Lit) → Holds t l → inequality l ≡ None

-- ---- orders
pub record IsOrderable (p : Problem) (g : ℕ) (o : Search) (s u : Term) : Type 0 where
  pub may : MayBeOrdered p g o s u
  pub numbers : (c : Clause) × (trichotomy p.signature s u ≡ Some c)

-- a row with right lines
pub record IsFineRow (s : Stored) (r : Row) : Type 0 where
  pub right : IsRightRow s.signature (terms_in s) r
  pub normal : IsNormal r.lin

-- such rows, of which the sides are numbers whose order may come in
pub record AreOrderableRows (p : Problem) (g : ℕ) (o : Search) (rows : List Row) : Type 0 where
  pub fine : AllByRecursion (IsFineRow o.store) rows
  pub sides : AllByRecursion (λ r. (both : Sides) → AreSidesOf (terms_in o.store) r both → IsOrderable p g o both.left both.right) rows
