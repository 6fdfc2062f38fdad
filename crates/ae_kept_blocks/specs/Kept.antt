-- Clauses whose constants are below a number, and clauses before and after a run.
use Rattle.std.specs.Prelude.{ℕ, List}
use Rattle.std.specs.List.{Contains}
use Rattle.ae_core.specs.declared.formulas.Formula.{Formula}
use Rattle.ae_core.specs.declared.formulas.Lit.{Lit}
use Rattle.ae_new_constants.specs.Below.{IsFormulaBelow}
use Rattle.ae_rules.specs.Clauses.{Clause}
use Rattle.ae_sat.specs.Search.{AllAmong, HasParts}
use Rattle.ae_sat.specs.Standing.{IsOneOf}

-- no constant of theirs has a number from n on
abbrev pub AreClausesBelow : ℕ → List Clause → Type 0
AreClausesBelow n clauses = (c : Clause) (l : Lit) → IsOneOf clauses c → Contains c l → IsFormulaBelow n l.formula

-- no formula comes in but parts of those that are there
abbrev pub GoesOnOver : List Clause → List Clause → Type 0
GoesOnOver old new = (fs : List Formula) → HasParts fs → AllAmong fs old → AllAmong fs new
