-- How a text of either version is read, by its first words.
use Rattle.std.specs.Prelude.{ℕ, List, [], ◌∷◌, Some, None, suc}
use Rattle.ae_codes.specs.Codes.{got}
use Rattle.ae_codes.specs.Rising.{rising}
use Rattle.ae_core.specs.declared.problems.Signature.{Signature}
use Rattle.ae_choices.specs.Choices.{Arms}
use Rattle.ae_linereader.specs.Lines.{lines_code}
use Rattle.ae_prooftext.specs.ProofTexts.{first_word, second_word, text_of}
use Rattle.ae_prooftext.specs.declared.proofs.ProofText.{ProofText}
use Rattle.ae_readers.specs.Readers.{after_read, fixed_read}

abbrev pub version_all : List (List ℕ)
version_all = first_word ∷ second_word ∷ []

abbrev pub version_arms : Signature → Arms ProofText
version_arms sig =
    (first_word, λ bytes. after_read ((lines_code sig).read bytes) (λ ls rest. got (text_of None ls) rest))
    ∷ (
      second_word,
      λ bytes.
          after_read ((rising suc).read bytes) (λ ns r.
          after_read (fixed_read (10 ∷ []) r) (λ u q.
          after_read ((lines_code sig).read q) (λ ls rest. got (text_of (Some ns) ls) rest))),
    )
    ∷ []
