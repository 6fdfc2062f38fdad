-- Literals and clauses as the grammar reads them.
use Rattle.std.proofs.Common.{ℕ, nat_eq, List, [], ◌∷◌, ◌≡◌, refl, ◌∙◌, arith}
use mathlib.Core.Logic.{inl}
use Rattle.ae_codes.specs.Codes.{got}
use Rattle.ae_codes.specs.Closers.{Close, closers, figures_apart, letters_apart, square}
use Rattle.ae_codes.specs.Names.{closing}
use Rattle.ae_core.specs.declared.problems.Signature.{Signature}
use Rattle.ae_prooftext.specs.Clauses as clauses
use Rattle.ae_prooftext.specs.Formulas.{positive_formula}
use Rattle.ae_prooftext.specs.Grammar.{is_real, clause_code}
use Rattle.ae_prooftext.specs.TermTexts.{above_square}
use Rattle.ae_prooftext.specs.Texts.{literal_text}
use Rattle.ae_readers.specs.Readers.{after_read, list_read, more_read, row_read}
use Rattle.ae_readers.proofs.Combinators.{mapped_is}
use Rattle.ae_readers.proofs.NameReading.{closing_is}
use Rattle.ae_readers.proofs.RowReading.{row_turn}
use Rattle.ae_formulareader.specs.Literals.{sign_read, literal_code, literal_read, literal_rows}
use Rattle.ae_formulareader.proofs.FormulaReading.{both_step}
use Rattle.ae_formulareader.proofs.ListForms.{listed_is}

abbrev signs : Close
signs = record { one = 43; two = 45; digits = figures_apart 43 45 (inl (omega arith)) (inl (omega arith)); at_sign = refl; letters = letters_apart 43 45 (omega arith) (omega arith) }

sign_is : (bytes : List ℕ) → (closing (closers 43 45) clauses.sign_end).read bytes ≡ sign_read bytes
sign_is [] = closing_is signs clauses.sign_end []
sign_is (x ∷ xs) = closing_is signs clauses.sign_end (x ∷ xs)

module _ (sig : Signature) where
  pub literal_is : (k : Close) (bytes : List ℕ) → (literal_code sig k).read bytes ≡ literal_read sig k bytes
  unfolding clauses.literal
  literal_is k bytes =
      mapped_is clauses.lit_to clauses.lit_from (clauses.lit_raw sig (is_real sig) k) (clauses.lit_back sig (is_real sig) k) bytes
      ∙ both_step (closing (closers 43 45) clauses.sign_end) (λ s. positive_formula sig (is_real sig) k) bytes (λ v rest. got (clauses.lit_to v) rest) (sign_read bytes)
      (λ s r. after_read ((positive_formula sig (is_real sig) k).read r) (λ f rest. got (clauses.lit_to (s, f)) rest)) (sign_is bytes) (λ s r. refl)

  pub literal_turn : (bytes : List ℕ) → row_read (literal_rows sig) bytes ≡ after_read ((literal_code sig square).read bytes) (λ v rest. more_read (nat_eq v.1 32) v.0 (row_read (literal_rows sig) rest) rest)
  unfolding literal_rows
  literal_turn bytes = row_turn 93 above_square (literal_code sig square) (clauses.sure_lit sig (is_real sig)) (clauses.literal_shaped sig (is_real sig)) bytes

  pub clause_is : (bytes : List ℕ) → (clause_code sig).read bytes ≡ list_read 93 (literal_rows sig) bytes
  unfolding clauses.literals literal_rows
  clause_is bytes = listed_is 93 above_square (literal_code sig square) (clauses.sure_lit sig (is_real sig)) (clauses.literal_shaped sig (is_real sig)) (literal_text sig) (clauses.literal_is_spelled sig (is_real sig) square)
      (clauses.literal_begins sig (is_real sig) square) bytes
