-- The state that a search shows at its end.
use Rattle.std.specs.Prelude.{List, [], map}
use Rattle.ae_core.specs.declared.formulas.Lit.{Lit}
use Rattle.ae_explain.specs.declared.trail.Assigned.{Assigned}
use Rattle.ae_journal.specs.declared.systems.System.{System}
use Rattle.ae_journal.specs.declared.systems.Saturated.{Saturated}

-- the literals of a trail, in their order
abbrev pub trail_literals : List Assigned → List Lit
trail_literals t = map (λ a. a.lit) t

-- these literals with a system, and no point, since there is no inequality
abbrev pub shown : List Assigned → System → Saturated
shown t y = record { literals = trail_literals t; system = y; point = [] }
