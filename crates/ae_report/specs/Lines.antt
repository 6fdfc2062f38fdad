-- The line that says why a text is refused, and at which line and column.
use Rattle.std.specs.Prelude.{ℕ, suc, ◌+◌, List, [], ◌∷◌, ◌++◌, ◌≡◌, length, take, codes, decimal, nat_eq, cond, Option, Some, None}
use Rattle.ae_lex.specs.declared.kinds.LexFault.{LexFault}
use Rattle.ae_lex.specs.declared.kinds.LexFault.TheVariants as lex
use Rattle.ae_readers.specs.declared.fault.Fault.{Fault}
use Rattle.ae_readers.specs.declared.fault.Fault.TheVariants as proof
use Rattle.ae_syntax.specs.declared.faults.SyntaxFault.{SyntaxFault}
use Rattle.ae_syntax.specs.declared.faults.SyntaxFault.TheVariants as syntax
use Rattle.ae_lex.specs.Lexis as lexis
use Rattle.ae_syntax.specs.Files as files
use Rattle.ae_report.specs.declared.refusal.Refusal.{Refusal}
use Rattle.ae_report.specs.declared.refusal.Refusal.TheVariants as refusal

-- how many of the bytes end a line; that is byte 10
abbrev pub line_ends : List ℕ → ℕ
line_ends [] = 0
line_ends (b ∷ bs) = cond (nat_eq b 10) (suc (line_ends bs)) (line_ends bs)

-- these bytes are whole lines
pub data AreLines : List ℕ → Type 0 where
  none : AreLines []
  ended : (bytes : List ℕ) → AreLines (bytes ++ 10 ∷ [])

-- What comes after these bytes stands in this line and this column, both from 1: the bytes are whole lines,
-- and then bytes of its own line, of which none ends a line.
pub record Precede (bytes : List ℕ) (line column : ℕ) : Type 0 where
  pub lines : List ℕ
  pub own : List ℕ
  pub split : bytes ≡ lines ++ own
  pub are_lines : AreLines lines
  pub no_end : line_ends own ≡ 0
  pub line_is : line ≡ line_ends lines + 1
  pub column_is : column ≡ length own + 1

-- the line and the column of the byte at this place of a text, or of the text's end
abbrev pub IsPlace : List ℕ → ℕ → ℕ → ℕ → Type 0
IsPlace text at line column = Precede (take at text) line column

-- the byte at which the text of an answer is refused
abbrev pub proof_place : Fault → Option ℕ
proof_place (proof.At at) = Some at
proof_place (proof.WideNumber at) = Some at
proof_place proof.Memory = None

-- the byte at which a text is refused; a text without the line that parts problem and answers, or too long, is refused as a whole
abbrev pub refused_at : Refusal → Option ℕ
refused_at (refusal.Lex f) = lexis.fault_place f
refused_at (refusal.Syntax f) = files.fault_place f
refused_at (refusal.Proof f) = proof_place f
refused_at refusal.NoSeparator = None
refused_at refusal.TooLong = None

-- what the line says
abbrev pub lex_words : LexFault → List ℕ
lex_words (lex.BadByte at) = codes "bad byte"
lex_words (lex.OpenComment at) = codes "open comment"
lex_words (lex.WideLiteral at) = codes "wide literal"
lex_words (lex.OutsideProfile at) = codes "outside profile"
lex_words lex.Memory = codes "out of memory"

abbrev pub syntax_words : SyntaxFault → List ℕ
syntax_words (syntax.Unexpected at) = codes "unexpected"
syntax_words (syntax.TooDeep at) = codes "too deep"
syntax_words (syntax.OutsideProfile at) = codes "outside profile"
syntax_words syntax.Memory = codes "out of memory"

abbrev pub proof_words : Fault → List ℕ
proof_words (proof.At at) = codes "proof text"
proof_words (proof.WideNumber at) = codes "wide number"
proof_words proof.Memory = codes "out of memory"

abbrev pub words : Refusal → List ℕ
words (refusal.Lex f) = lex_words f
words (refusal.Syntax f) = syntax_words f
words (refusal.Proof f) = proof_words f
words refusal.NoSeparator = codes "no separator"
words refusal.TooLong = codes "input too long"

-- `refused`, the line and the column where there is a place, and why
abbrev pub IsLineAt : List ℕ → Option ℕ → List ℕ → List ℕ → Type 0
IsLineAt text None why bytes = bytes ≡ codes "refused " ++ why ++ codes "\n"
IsLineAt text (Some at) why bytes =
    (line : ℕ) × (column : ℕ) × IsPlace text at line column
    × (bytes ≡ codes "refused " ++ decimal line ++ codes ":" ++ decimal column ++ codes " " ++ why ++ codes "\n")

-- the line by which a text is refused
abbrev pub IsRefusalLine : List ℕ → Refusal → List ℕ → Type 0
IsRefusalLine text r bytes = IsLineAt text (refused_at r) (words r) bytes
