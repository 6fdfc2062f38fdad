-- How a literal and a clause are read, byte by byte.
use Rattle.std.specs.Prelude.{ℕ, nat_eq, List, [], ◌∷◌}
use Rattle.ae_codes.specs.Codes.{Read, got, stops, Code}
use Rattle.ae_codes.specs.Closers.{Close, closers, square}
use Rattle.ae_codes.specs.Rows.{Row, rows}
use Rattle.ae_core.specs.declared.formulas.Lit.{Lit}
use Rattle.ae_core.specs.declared.problems.Signature.{Signature}
use Rattle.ae_prooftext.specs.Clauses as clauses
use Rattle.ae_prooftext.specs.Clauses.{LitEnd}
use Rattle.ae_prooftext.specs.Grammar.{is_real}
use Rattle.ae_prooftext.specs.TermTexts.{above_square}
use Rattle.ae_readers.specs.Readers.{after_read, closing_or}
use Rattle.ae_formulareader.specs.Formulas.{positive_code}

-- a sign, `+` or `-`
abbrev pub sign_read : List ℕ → Read ℕ
sign_read [] = stops []
sign_read (x ∷ xs) = closing_or (closers 43 45 x) x xs

module _ (sig : Signature) where
  abbrev pub literal_code : Close → Code LitEnd
  literal_code = clauses.literal sig (is_real sig)

  abbrev pub literal_read : Close → List ℕ → Read LitEnd
  literal_read k bytes =
      after_read (sign_read bytes) (λ s r.
      after_read ((positive_code sig k).read r) (λ f rest. got (record { positive = nat_eq s 43; formula = f.0 }, f.1) rest))

  unfoldable pub literal_rows : Code (Row Lit)
  literal_rows = rows 93 above_square (literal_code square) (clauses.sure_lit sig (is_real sig)) (clauses.literal_shaped sig (is_real sig))
