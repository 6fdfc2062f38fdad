-- How a part is read, word by word.
use Rattle.std.specs.Prelude.{ℕ, true, List, [], ◌∷◌}
use Rattle.ae_choices.specs.Choices.{Arms, picked}
use Rattle.ae_codes.specs.Closers.{by_line}
use Rattle.ae_codes.specs.Codes.{Read, got}
use Rattle.ae_codes.specs.Numbers.{number}
use Rattle.ae_core.specs.declared.problems.Signature.{Signature}
use Rattle.ae_parts.specs.Codes.{goal_word, limits, number_word, other_words, steps_word, unknown_word, valid_word}
use Rattle.ae_parts.specs.declared.parts.Part.{Part}
use Rattle.ae_parts.specs.declared.parts.Part.TheVariants as part
use Rattle.ae_prooftext.specs.Grammar.{proof_code}
use Rattle.ae_readers.specs.Readers.{after_read, fixed_read}
use Rattle.ae_stategrammar.specs.Journals.{story}
use Rattle.ae_stategrammar.specs.States.{state}
use Rattle.ae_stategrammar.specs.Widths.{number_code}
use Rattle.ae_valuereader.specs.declared.spans.Span.{Span}

-- no blank closes one
abbrev pub limit_span : Span
limit_span = record { low = 1; high = 1000000; last = 10; may_end = true; greatest = 0 }

abbrev pub all_words : List (List ℕ)
all_words = valid_word ∷ other_words

module _ (sig : Signature) where
  abbrev pub steps_read : List ℕ → Read Part
  steps_read bytes =
      after_read ((number (limits by_line)).read bytes) (λ n r.
      after_read ((story sig).read r) (λ s rest. got (part.Steps n.0 s) rest))

  abbrev pub part_arms : Arms Part
  part_arms =
      (valid_word, λ bytes. after_read ((proof_code sig).read bytes) (λ p rest. got (part.Valid p) rest))
      ∷ (unknown_word, λ bytes. after_read ((state sig).read bytes) (λ s rest. got (part.Unknown s) rest))
      ∷ (steps_word, λ bytes. steps_read bytes)
      ∷ (number_word, λ bytes. after_read ((number_code sig).read bytes) (λ v rest. got (part.Number v.0 v.1) rest))
      ∷ []

  abbrev pub part_read : List ℕ → List ℕ → Read Part
  part_read name bytes =
      after_read (fixed_read goal_word bytes) (λ u r.
      after_read (fixed_read name r) (λ v q. picked all_words part_arms q))
