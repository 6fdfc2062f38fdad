-- How a whole state is read: its first line, and what stands behind it.
use Rattle.std.specs.Prelude.{ℕ, List, [], ◌∷◌}
use Rattle.ae_codes.specs.Codes.{Read, got}
use Rattle.ae_core.specs.declared.problems.Signature.{Signature}
use Rattle.ae_journal.specs.declared.systems.Saturated.{Saturated}
use Rattle.ae_readers.specs.Readers.{after_read, fixed_read}
use Rattle.ae_stategrammar.specs.States.{literals, Literals}

module _ (sig : Signature) where
  abbrev pub state_of : Literals sig → Saturated
  state_of v = record { literals = v.0; system = record { names = v.1.0; values = v.1.1.0; rules = v.1.1.1.0 }; point = v.1.1.1.1.0 }

  abbrev pub state_read : List ℕ → Read Saturated
  state_read bytes =
      after_read (fixed_read (115 ∷ 116 ∷ 97 ∷ 116 ∷ 101 ∷ 32 ∷ 49 ∷ 10 ∷ []) bytes) (λ u r.
      after_read ((literals sig).read r) (λ v rest. got (state_of v) rest))
