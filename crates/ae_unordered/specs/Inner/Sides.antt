-- Whether the order of two numbers is left open.
use Rattle.std.specs.Prelude.{List}
use Rattle.ae_core.specs.declared.formulas.Formula.{Lt}
use Rattle.ae_core.specs.declared.terms.Term.{Term}
use Rattle.ae_explain.specs.declared.trail.Assigned.{Assigned}
use Rattle.ae_propagation.specs.Settled.{Holds}
use Rattle.ae_rules.specs.Clauses.{is_false, is_true}

-- the one is denied to be below the other
abbrev pub IsLeftOpen : List Assigned → Term → Term → Type 0
IsLeftOpen t s u = Holds t (is_false (Lt s u))

-- where it is, the other is below the one
abbrev pub IsSaid : List Assigned → Term → Term → Type 0
IsSaid t s u = Holds t (is_false (Lt s u)) → Holds t (is_true (Lt u s))

abbrev pub BothSaid : List Assigned → Term → Term → Type 0
BothSaid t s u = IsSaid t s u × IsSaid t u s
