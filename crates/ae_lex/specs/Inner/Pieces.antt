-- What the lexer's parts answer.
use Rattle.std.specs.Prelude.{ℕ, ◌+◌, ◌^◌, ◌≤◌, ◌<◌, Bool, List, [], ◌∷◌, ◌++◌, ◌≡◌, ◌⊎◌, length, drop, slice_index_or, Option, Some, None, ℤ, pos, IsTrue, IsFalse}
use Rattle.std.specs.List.{list_all}
use Rattle.ae_lex.specs.declared.kinds.TokenKind.{TokenKind}
use Rattle.ae_lex.specs.declared.kinds.TokenKind.TheVariants as kind
use Rattle.ae_lex.specs.declared.kinds.Sign.{Sign}
use Rattle.ae_lex.specs.Spellings.{sign_bytes}
use Rattle.ae_lex.specs.declared.lexer.Piece.{Piece}
use Rattle.ae_lex.specs.declared.lexer.Piece.TheVariants as piece
use Rattle.ae_lex.specs.Lexis.{Closes, IsGap, IsTokenBefore, IsFaultAt, IsLowest, Begins, BeginsWithLetter, is_blank, is_letter, is_digit, value}
use Rattle.ae_lex.specs.declared.kinds.LexFault.TheVariants as fault

-- this byte stands at this place of the text
abbrev pub HasByte : List ℕ → ℕ → ℕ → Type 0
HasByte text at b = (at < length text) × (drop at text ≡ b ∷ drop (at + 1) text)

-- the bytes between two places of the text
pub record IsPart (text : List ℕ) (from to : ℕ) (w : List ℕ) : Type 0 where
  pub cut : drop from text ≡ w ++ drop to text
  pub far : to ≡ from + length w
  pub within : to ≤ length text

abbrev pub StopsAt : (ℕ → Bool) → List ℕ → Type 0
StopsAt p [] = Unit {0}
StopsAt p (b ∷ x) = IsFalse (p b)

-- the longest run of bytes of a class, from a place on
pub record IsRun (p : ℕ → Bool) (text : List ℕ) (from to : ℕ) (w : List ℕ) : Type 0 where
  pub part : IsPart text from to w
  pub all : IsTrue (list_all p w)
  pub stops : StopsAt p (drop to text)

abbrev pub HasRun : (ℕ → Bool) → List ℕ → ℕ → ℕ → Type 0
HasRun p text from to = (w : List ℕ) × IsRun p text from to w

-- a number, or none where it is 2^127 or more
abbrev pub IsValue : Option ℕ → ℕ → Type 0
IsValue (Some n) v = (n ≡ v) × (v < 2 ^ 127)
IsValue None v = 2 ^ 127 ≤ v

-- a run of digits, and its number after what stood before it
abbrev pub HasDigits : List ℕ → ℕ → ℕ → Option ℕ → Option ℕ → Type 0
HasDigits text from to before after = (w : List ℕ) × IsRun is_digit text from to w × ((v : ℕ) → IsValue before v → IsValue after (value v w))

-- the kind of a whole numeral, or none where it is too wide
abbrev pub IsWholeKind : Option TokenKind → ℕ → Type 0
IsWholeKind (Some k) v = (k ≡ kind.Whole (pos v)) × (v < 2 ^ 127)
IsWholeKind None v = 2 ^ 127 ≤ v

pub record IsDecimalOf (k : TokenKind) (n m : ℕ) : Type 0 where
  pub top : ℤ
  pub bottom : ℤ
  pub is : k ≡ kind.Decimal top bottom
  pub lowest : IsLowest top bottom n m
  pub digits_fit : n < 2 ^ 127
  pub power_fits : m < 2 ^ 127

-- the kind of a decimal numeral, or none where it is too wide
abbrev pub IsDecimalKind : Option TokenKind → ℕ → ℕ → Type 0
IsDecimalKind (Some k) n m = IsDecimalOf k n m
IsDecimalKind None n m = (2 ^ 127 ≤ n) ⊎ (2 ^ 127 ≤ m)

-- where the open comment ends
abbrev pub IsCommentEnd : Option ℕ → ℕ → List ℕ → Type 0
IsCommentEnd (Some to) from text = (w : List ℕ) × IsPart text from to w × Closes 1 w
IsCommentEnd None from text = (w rest : List ℕ) → drop from text ≡ w ++ rest → ¬ Closes 1 w

-- what stands at a place
abbrev pub Stands : Piece → ℕ → List ℕ → Type 0
Stands (piece.Gap to) at text = (w : List ℕ) × IsPart text at to w × IsGap w
Stands (piece.Token k to) at text = (w : List ℕ) × IsPart text at to w × IsTokenBefore k w (drop to text)
Stands (piece.Fault f) at text = IsFaultAt f at (drop at text)

-- a numeral that ends before these bytes: outside the profile before a letter or `_`, else of this kind or wide
abbrev pub IsEnded : Piece → ℕ → ℕ → Option TokenKind → List ℕ → Type 0
IsEnded (piece.Gap to') at to k rest = ⊥
IsEnded (piece.Token k' to') at to k rest = (¬ BeginsWithLetter rest) × (k ≡ Some k') × (to' ≡ to)
IsEnded (piece.Fault (fault.OutsideProfile place)) at to k rest = BeginsWithLetter rest × (place ≡ at)
IsEnded (piece.Fault (fault.WideLiteral place)) at to k rest = (¬ BeginsWithLetter rest) × (k ≡ None) × (place ≡ at)
IsEnded (piece.Fault f) at to k rest = ⊥

-- no blank, and nothing that begins a word, a numeral or a type variable
pub record IsMark (b : ℕ) : Type 0 where
  pub not_blank : IsFalse (is_blank b)
  pub not_letter : IsFalse (is_letter b)
  pub not_digit : IsFalse (is_digit b)
  pub not_quote : b ≡ 39 → ⊥

-- the first sign of a list with which the bytes begin
pub record IsFirstSign (s : Sign) (bytes : List ℕ) (signs : List Sign) : Type 0 where
  pub place : ℕ
  pub listed : place < length signs
  pub is : s ≡ slice_index_or signs place s
  pub begins : Begins (sign_bytes s) bytes
  pub before : (k : ℕ) (d : Sign) → k < place → ¬ Begins (sign_bytes (slice_index_or signs k d)) bytes
