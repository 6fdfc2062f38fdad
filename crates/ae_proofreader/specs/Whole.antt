-- Where a fault of a whole text stands.
use Rattle.std.specs.Prelude.{List, ℕ, ◌≤◌, length}
use Rattle.ae_readers.specs.declared.fault.Fault.{Fault}
use Rattle.ae_readers.specs.declared.fault.Fault.TheVariants.{At, WideNumber, Memory}

-- the fault's place is one of the text, or its end
abbrev pub StandsIn : List ℕ → Fault → Type 0
StandsIn text (At p) = p ≤ length text
StandsIn text (WideNumber p) = p ≤ length text
StandsIn text Memory = Unit {0}
