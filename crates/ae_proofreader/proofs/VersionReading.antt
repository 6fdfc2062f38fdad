-- Texts of either version as the grammar reads them.
use Rattle.std.proofs.Common.{ℕ, List, [], ◌∷◌, ◌≡◌, Some, None, suc, refl, sym, ◌∙◌}
use Rattle.ae_base.specs.Options.{or_else}
use Rattle.ae_codes.specs.Codes.{Code, Read, got, both}
use Rattle.ae_codes.specs.Rising.{rising}
use Rattle.ae_codes.specs.Rows.{alone}
use Rattle.ae_core.specs.declared.problems.Signature.{Signature}
use Rattle.ae_formulareader.proofs.FormulaReading.{both_step, word_is}
use Rattle.ae_choices.specs.Choices.{picked}
use Rattle.ae_linereader.specs.Lines.{lines_code, proof_lines_code}
use Rattle.ae_choices.proofs.ChoiceForms.{tagged_picked}
use Rattle.ae_linereader.proofs.OwnReading.{same_after}
use Rattle.ae_prooftext.specs.Grammar.{is_real, proof_code}
use Rattle.ae_prooftext.specs.Proofs.{proof_lines}
use Rattle.ae_prooftext.specs.ProofTexts as versions
use Rattle.ae_prooftext.specs.declared.proofs.ProofText.{ProofText}
use Rattle.ae_proofreader.specs.Versions.{version_all, version_arms}
use Rattle.ae_readers.specs.Readers.{after_read}
use Rattle.ae_termreader.proofs.SortReading.{mapped_then}

module _ (sig : Signature) where
  abbrev text_made : ProofText → List ℕ → Read ProofText
  text_made p rest = got p rest

  abbrev line_end : Code (Unit {0})
  line_end = alone {A = Unit {0}} tt (10 ∷ [])

  first_is : (r : List ℕ) → after_read ((proof_lines_code sig).read r) (λ v rest. got (versions.text_of None v.0) rest) ≡ after_read ((lines_code sig).read r) (λ ls rest. got (versions.text_of None ls) rest)
  unfolding lines_code
  first_is r = sym (mapped_then (λ v. v.0) (λ ls. (ls, tt)) (proof_lines_code sig) (λ v f. refl) r (λ ls rest. got (versions.text_of None ls) rest))

  second_is : (ns : List ℕ) (r : List ℕ) → after_read ((proof_lines_code sig).read r) (λ v rest. got (versions.text_of (Some ns) v.0) rest)
      ≡ after_read ((lines_code sig).read r) (λ ls rest. got (versions.text_of (Some ns) ls) rest)
  unfolding lines_code
  second_is ns r = sym (mapped_then (λ v. v.0) (λ ls. (ls, tt)) (proof_lines_code sig) (λ v f. refl) r (λ ls rest. got (versions.text_of (Some ns) ls) rest))

  pub proof_is : (bytes : List ℕ) → (proof_code sig).read bytes ≡ picked version_all (version_arms sig) bytes
  unfolding versions.proof_code
  proof_is bytes = same_after ((proof_code sig).read bytes) ∙
      tagged_picked versions.first_word (versions.second_word ∷ []) versions.versions_apart (versions.version_arms sig (is_real sig)) versions.version_tag (versions.version_law sig (is_real sig)) text_made (version_arms sig) (
        refl,
        (λ r. mapped_then (λ v. versions.text_of None v.0) (λ p. (p.proof.lines, tt)) (proof_lines sig (is_real sig)) (λ v f. refl) r text_made ∙ first_is r),
        (
          refl,
          (λ r. mapped_then (λ v. versions.text_of (Some v.0) v.1.1.0) (λ p. (or_else p.axioms [], (tt, (p.proof.lines, tt)))) (versions.second_raw sig (is_real sig)) (λ v f. refl) r text_made
              ∙ both_step (rising suc) (λ ns. both line_end (λ u. proof_lines sig (is_real sig))) r _ _ _ refl
              (λ ns q. both_step line_end (λ u. proof_lines sig (is_real sig)) q _ _ _ (word_is (10 ∷ []) q) (λ u e. second_is ns e))),
          tt,
        ),
      ) bytes
