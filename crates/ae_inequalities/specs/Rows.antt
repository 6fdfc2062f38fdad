-- Rows with the lines that say them.
use Rattle.std.specs.Prelude.{true, false, List, ◌≡◌}
use Rattle.std.specs.List.{AllByRecursion}
use Rattle.ae_math.specs.Forms.{single}
use Rattle.ae_core.specs.declared.terms.Term.{Term}
use Rattle.ae_core.specs.declared.problems.Signature.{Signature}
use Rattle.ae_rules.specs.Linear.{form}
use Rattle.ae_store.specs.Terms.{named}
use Rattle.ae_bound_blocks.specs.declared.given.Given.{Given}
use Rattle.ae_bound_blocks.specs.Said.{IsGiven}
use Rattle.ae_inequalities.specs.declared.rows.Row.{Row}

-- what gives the row
abbrev pub given_by : Row → Given
given_by r = record { deriv = r.from.deriv; multiple = r.multiple; real = r.real }

-- the lines are allowed, and the last says that the row, times its multiple, isn't negative, or is positive where it is strict; a row that is rounded is one of integers, over opaque terms
pub record IsRightRow (sig : Signature) (ts : List Term) (r : Row) : Type 0 where
  pub said : IsGiven sig ts r.real (record { lin = r.lin; strict = r.strict }) (given_by r)
  pub whole : r.integral ≡ true → r.real ≡ false
  pub opaque : r.integral ≡ true → AllByRecursion (λ p. form (named ts p.key) ≡ single (named ts p.key)) r.lin.parts
