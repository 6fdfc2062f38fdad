-- Lines that end with a rounding.
use Rattle.std.specs.Prelude.{Bool, true, false, ◌-◌, List, length, slice_get, Some}
use Rattle.ae_base.specs.Options.{or_else, ◌>>=◌}
use Rattle.ae_core.specs.declared.proofs.EqLine.{EqLine}
use Rattle.ae_core.specs.declared.proofs.EqLine.TheVariants.{LeRound}

-- the line rounds what an earlier one says
abbrev pub is_rounding : EqLine → Bool
is_rounding (LeRound left right line) = true
is_rounding _ = false

-- the last line does
abbrev pub ends_rounded : List EqLine → Bool
ends_rounded ls = or_else (slice_get ls (length ls - 1) >>= λ l. Some (is_rounding l)) false
