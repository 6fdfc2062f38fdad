-- What a state knows to be complete.
use Rattle.std.specs.Prelude.{ℕ, Option, IfSome}
use Rattle.ae_state.specs.declared.holding.Holding.{Holding}
use Rattle.ae_saturation.specs.Lasting.{IsCompleteFor}

-- what is held is complete for the first of the assumed literals, as many as are told
abbrev pub IsKnown : Option ℕ → Holding → Type 0
IsKnown complete_for o = IfSome complete_for (λ count. IsCompleteFor count o)
