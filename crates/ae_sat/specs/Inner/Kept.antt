-- By how many of the first literals of a trail the clauses are settled.
use Rattle.std.specs.Prelude.{ℕ, ◌≤◌, List, length, take, Option, Some, None}
use Rattle.ae_rules.specs.Clauses.{Clause}
use Rattle.ae_explain.specs.declared.trail.Assigned.{Assigned}
use Rattle.ae_propagation.specs.Watched.{AreQuietBy}

abbrev pub IsKept : Option ℕ → List Assigned → List Clause → Type 0
IsKept None t clauses = Unit {0}
IsKept (Some n) t clauses = (n ≤ length t) × AreQuietBy (take n t) t clauses
