-- What is found with at most so many combinations.
use Rattle.std.specs.Prelude.{List}
use Rattle.ae_explain.specs.declared.trail.Assigned.{Assigned}
use Rattle.ae_store.specs.Stores.{Stored}
use Rattle.ae_strict_rows.specs.Found.{IsFoundIn}
use Rattle.ae_strict_rows.specs.declared.strict.Found.{Found}
use Rattle.ae_strict_rows.specs.declared.strict.Found.TheVariants.{Contradiction, Nothing, Unfinished}

-- a contradiction is one of literals of the trail
abbrev pub IsRight : Stored → List Assigned → Found → Type 0
IsRight s t (Contradiction e) = IsFoundIn s t e
IsRight s t Nothing = Unit {0}
IsRight s t Unfinished = Unit {0}
