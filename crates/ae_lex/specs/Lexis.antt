-- The tokens of a text, and its first fault. A text is the list of its bytes.
use Rattle.std.specs.Prelude.{ℕ, zero, suc, ◌+◌, ◌-◌, ◌*◌, ◌^◌, ◌≤◌, Bool, ◌&&◌, ◌||◌, nat_eq, nat_lt, List, [], ◌∷◌, ◌++◌, ◌≡◌, ◌≢◌, length, codes, Option, Some, None, ℤ, pos, IsTrue, IsFalse, MatchBool}
use Rattle.std.specs.List.{list_all}
use Rattle.std.specs.Int.{IsGcd}
use Rattle.ae_lex.specs.declared.kinds.Token.{Token}
use Rattle.ae_lex.specs.declared.kinds.TokenKind.{TokenKind}
use Rattle.ae_lex.specs.declared.kinds.TokenKind.TheVariants as kind
use Rattle.ae_lex.specs.declared.kinds.LexFault.{LexFault}
use Rattle.ae_lex.specs.declared.kinds.LexFault.TheVariants as fault
use Rattle.ae_lex.specs.declared.kinds.Reserved.{Reserved}
use Rattle.ae_lex.specs.declared.kinds.Sign.{Sign}
use Rattle.ae_lex.specs.Spellings.{word_bytes, sign_bytes}

-- ---- bytes
abbrev pub is_blank : ℕ → Bool
is_blank b = nat_eq b 9 || nat_eq b 10 || nat_eq b 12 || nat_eq b 13 || nat_eq b 32

abbrev pub is_digit : ℕ → Bool
is_digit b = nat_lt 47 b && nat_lt b 58

-- `A` to `Z`, `a` to `z` and `_`
abbrev pub is_letter : ℕ → Bool
is_letter b = (nat_lt 64 b && nat_lt b 91) || (nat_lt 96 b && nat_lt b 123) || nat_eq b 95

-- what may follow in a word: a letter, `_`, a digit or `?`
abbrev pub is_inner : ℕ → Bool
is_inner b = is_letter b || is_digit b || nat_eq b 63

-- the point of a decimal numeral
abbrev pub is_point : ℕ → Bool
is_point b = nat_eq b 46

-- the bytes begin with these
abbrev pub Begins : List ℕ → List ℕ → Type 0
Begins p x = (rest : List ℕ) × (x ≡ p ++ rest)

abbrev pub BeginsWithLetter : List ℕ → Type 0
BeginsWithLetter [] = ⊥
BeginsWithLetter (b ∷ x) = IsTrue (is_letter b)

-- ---- comments
abbrev pub is_opening : ℕ → ℕ → Bool
is_opening b c = nat_eq b 40 && nat_eq c 42

abbrev pub is_closing : ℕ → ℕ → Bool
is_closing b c = nat_eq b 42 && nat_eq c 41

-- These bytes close so many open comments, and the last byte closes the last of them: `(*` opens one more,
-- `*)` closes one, and any other byte stands for itself.
abbrev pub Closes : ℕ → List ℕ → Type 0
Closes zero [] = Unit {0}
Closes zero (b ∷ w) = ⊥
Closes (suc d) [] = ⊥
Closes (suc d) (b ∷ []) = ⊥
Closes (suc d) (b ∷ c ∷ w) = MatchBool (is_opening b c) (Closes (suc (suc d)) w) (MatchBool (is_closing b c) (Closes d w) (Closes (suc d) (c ∷ w)))

-- `(*`, and then bytes up to the `*)` that closes it
abbrev pub IsComment : List ℕ → Type 0
IsComment w = (inner : List ℕ) × (w ≡ codes "(*" ++ inner) × Closes 1 inner

-- ---- the forms of tokens
-- a letter or `_`, then letters, digits, `_` and `?`
abbrev pub IsWord : List ℕ → Type 0
IsWord [] = ⊥
IsWord (b ∷ w) = IsTrue (is_letter b) × IsTrue (list_all is_inner w)

-- `'` and a word
abbrev pub IsTypeVar : List ℕ → Type 0
IsTypeVar [] = ⊥
IsTypeVar (b ∷ w) = (b ≡ 39) × IsWord w

-- one or more digits
abbrev pub IsWhole : List ℕ → Type 0
IsWhole w = (w ≢ []) × IsTrue (list_all is_digit w)

-- one or more digits, a point, zero or more digits
pub record IsPointed (w before after : List ℕ) : Type 0 where
  pub written : w ≡ before ++ 46 ∷ after
  pub front : IsWhole before
  pub back : IsTrue (list_all is_digit after)

pub data IsNumeral (w : List ℕ) : Type 0 where
  whole : IsWhole w → IsNumeral w
  pointed : (before after : List ℕ) → IsPointed w before after → IsNumeral w

pub data IsToken (w : List ℕ) : Type 0 where
  word : IsWord w → IsToken w
  type_var : IsTypeVar w → IsToken w
  numeral : IsNumeral w → IsToken w
  sign : (s : Sign) → w ≡ sign_bytes s → IsToken w

-- ---- the values of numerals
-- the number that digits write, where v stands before them
abbrev pub value : ℕ → List ℕ → ℕ
value v [] = v
value v (b ∷ w) = value (v * 10 + (b - 48)) w

abbrev pub number : List ℕ → ℕ
number w = value 0 w

-- the fraction of n and m in lowest terms
pub record IsLowest (top bottom : ℤ) (n m : ℕ) : Type 0 where
  pub up : ℕ
  pub down : ℕ
  pub common : ℕ
  pub greatest : IsGcd n m common
  pub up_is : n ≡ up * common
  pub down_is : m ≡ down * common
  pub top_is : top ≡ pos up
  pub bottom_is : bottom ≡ pos down

-- the number without the point over ten to the power of the digits after it
pub record IsDecimal (top bottom : ℤ) (w : List ℕ) : Type 0 where
  pub before : List ℕ
  pub after : List ℕ
  pub form : IsPointed w before after
  pub lowest : IsLowest top bottom (number (before ++ after)) (10 ^ length after)

-- the digits without the point, or the power of ten, exceed 2^127 - 1
pub data IsWide (w : List ℕ) : Type 0 where
  wide_whole : IsWhole w → 2 ^ 127 ≤ number w → IsWide w
  wide_digits : (before after : List ℕ) → IsPointed w before after → 2 ^ 127 ≤ number (before ++ after) → IsWide w
  wide_power : (before after : List ℕ) → IsPointed w before after → 2 ^ 127 ≤ 10 ^ length after → IsWide w

-- ---- the kinds of tokens
abbrev pub HasKind : TokenKind → List ℕ → Type 0
HasKind kind.Ident w = IsWord w × ((r : Reserved) → w ≢ word_bytes r)
HasKind kind.TypeVar w = IsTypeVar w
HasKind (kind.Whole n) w = IsWhole w × (n ≡ pos (number w))
HasKind (kind.Decimal top bottom) w = IsDecimal top bottom w
HasKind (kind.Reserved r) w = w ≡ word_bytes r
HasKind (kind.Sign s) w = w ≡ sign_bytes s

-- no longer prefix of what follows is a token
abbrev pub IsLongest : List ℕ → List ℕ → Type 0
IsLongest w rest = (more after : List ℕ) → rest ≡ more ++ after → IsToken (w ++ more) → more ≡ []

-- ---- faults
-- what the language has and this profile leaves out, numerals aside, stands first
pub data IsOutsideMark (x : List ℕ) : Type 0 where
  power : Begins (codes "**") x → IsOutsideMark x
  mapsto : Begins (codes "|->") x → IsOutsideMark x
  quote : Begins (codes "\"") x → IsOutsideMark x
  caret : Begins (codes "^") x → IsOutsideMark x
  at_sign : Begins (codes "@") x → IsOutsideMark x

-- such a mark, or a numeral directly followed by a letter or `_`, stands first
pub data IsOutside (x : List ℕ) : Type 0 where
  mark : IsOutsideMark x → IsOutside x
  suffix : (w rest : List ℕ) → x ≡ w ++ rest → IsNumeral w → IsLongest w rest → BeginsWithLetter rest → IsOutside x

-- a comment that isn't closed stands first
pub record IsOpen (x : List ℕ) : Type 0 where
  pub opens : Begins (codes "(*") x
  pub unclosed : (w rest : List ℕ) → x ≡ w ++ rest → ¬ IsComment w

-- a numeral that is too wide stands first
pub record IsWideFirst (x : List ℕ) : Type 0 where
  pub numeral : List ℕ
  pub rest : List ℕ
  pub cut : x ≡ numeral ++ rest
  pub longest : IsLongest numeral rest
  pub wide : IsWide numeral
  pub ends : ¬ BeginsWithLetter rest

-- a byte that begins nothing stands first
pub record IsBad (x : List ℕ) : Type 0 where
  pub byte : ℕ
  pub rest : List ℕ
  pub cut : x ≡ byte ∷ rest
  pub not_blank : IsFalse (is_blank byte)
  pub no_token : (w after : List ℕ) → x ≡ w ++ after → ¬ IsToken w
  pub not_outside : ¬ IsOutside x

-- the fault of the bytes x, which stand at this place
abbrev pub IsFaultAt : LexFault → ℕ → List ℕ → Type 0
IsFaultAt (fault.BadByte place) at x = (place ≡ at) × IsBad x
IsFaultAt (fault.OpenComment place) at x = (place ≡ at) × IsOpen x
IsFaultAt (fault.WideLiteral place) at x = (place ≡ at) × IsWideFirst x
IsFaultAt (fault.OutsideProfile place) at x = (place ≡ at) × IsOutside x
IsFaultAt fault.Memory at x = ⊥

-- the byte at which a fault stands; want of memory stands at none
abbrev pub fault_place : LexFault → Option ℕ
fault_place (fault.BadByte place) = Some place
fault_place (fault.OpenComment place) = Some place
fault_place (fault.WideLiteral place) = Some place
fault_place (fault.OutsideProfile place) = Some place
fault_place fault.Memory = None

-- ---- the text
-- a blank or a comment
pub data IsGap (w : List ℕ) : Type 0 where
  blank : (b : ℕ) → w ≡ b ∷ [] → IsTrue (is_blank b) → IsGap w
  comment : IsComment w → IsGap w

-- the bytes w, before the others, are a token
pub record IsTokenBefore (k : TokenKind) (w rest : List ℕ) : Type 0 where
  pub has_kind : HasKind k w
  pub longest : IsLongest w rest
  pub no_comment : ¬ Begins (codes "(*") (w ++ rest)
  pub not_outside : ¬ IsOutside (w ++ rest)
  pub not_wide : ¬ IsWide w

-- The bytes, which begin at a place, are cut into blanks, comments and these tokens, up to their end or, where
-- there is a fault, up to it.
pub data IsCut : ℕ → List ℕ → List Token → Option LexFault → Type 0 where
  ends : (at : ℕ) → IsCut at [] [] None
  fails : (at : ℕ) (x : List ℕ) (f : LexFault) → IsFaultAt f at x → IsCut at x [] (Some f)
  passes : (at : ℕ) (x w rest : List ℕ) (ts : List Token) (f : Option LexFault) → x ≡ w ++ rest → IsGap w → IsCut (at + length w) rest ts f → IsCut at x ts f
  gives : (at : ℕ) (x w rest : List ℕ) (k : TokenKind) (ts : List Token) (f : Option LexFault) → x ≡ w ++ rest → IsTokenBefore k w rest → IsCut (at + length w) rest ts f → IsCut at x (record { kind = k; from = at; to = at + length w } ∷ ts) f

-- these are the tokens of the text
abbrev pub IsTokenized : List ℕ → List Token → Type 0
IsTokenized text ts = IsCut 0 text ts None

-- this is the fault of the text, the leftmost one: the text before it is cut into blanks, comments and tokens
abbrev pub IsFault : List ℕ → LexFault → Type 0
IsFault text f = (ts : List Token) × IsCut 0 text ts (Some f)
