-- How a whole journal is read: its first line, and what stands behind it.
use Rattle.std.specs.Prelude.{ℕ, List, [], ◌∷◌}
use Rattle.ae_codes.specs.Codes.{Read, got}
use Rattle.ae_core.specs.declared.problems.Signature.{Signature}
use Rattle.ae_journal.specs.declared.lines.Story.{Story}
use Rattle.ae_readers.specs.Readers.{after_read, fixed_read}
use Rattle.ae_stategrammar.specs.Journals.{names}

module _ (sig : Signature) where
  abbrev pub story_read : List ℕ → Read Story
  story_read bytes =
      after_read (fixed_read (106 ∷ 111 ∷ 117 ∷ 114 ∷ 110 ∷ 97 ∷ 108 ∷ 32 ∷ 49 ∷ 10 ∷ []) bytes) (λ u r.
      after_read ((names sig).read r) (λ v rest. got (record { names = v.0; lines = v.1.0 }) rest))
