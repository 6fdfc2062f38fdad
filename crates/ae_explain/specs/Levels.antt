-- The levels of literals.
use Rattle.std.specs.Prelude.{ℕ, List, [], ◌∷◌, max, Option, Some, None, filter, nat_lt}
use Rattle.ae_rules.specs.Clauses.{Clause}
use Rattle.ae_core.specs.declared.formulas.Lit.{Lit}
use Rattle.ae_explain.specs.declared.trail.Assigned.{Assigned}
use Rattle.ae_explain.specs.Trail.{at, place_in}

abbrev pub level_at : List Assigned → Option ℕ → ℕ
level_at trail None = 0
level_at trail (Some p) = (at trail p).level

-- the level of a literal's formula
abbrev pub level_of : List Assigned → Lit → ℕ
level_of trail m = level_at trail (place_in trail m.formula)

-- the greatest level of a clause's literals; 0 where there is none
abbrev pub greatest_of : List Assigned → Clause → ℕ
greatest_of trail [] = 0
greatest_of trail (m ∷ c) = max (level_of trail m) (greatest_of trail c)

-- the literals below a level
abbrev pub literals_under : List Assigned → ℕ → Clause → Clause
literals_under trail level c = filter (λ m. nat_lt (level_of trail m) level) c
