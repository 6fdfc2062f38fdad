-- How tokens are kept: the values of numerals stand in a list of their own.
use Rattle.std.specs.Prelude.{◌<◌, List, ◌++◌, ◌≡◌, map, length, get_or}
use Rattle.std.specs.List.{AllByRecursion}
use Rattle.ae_lex.specs.declared.kinds.Token.{Token}
use Rattle.ae_lex.specs.declared.kinds.TokenKind.{TokenKind}
use Rattle.ae_lex.specs.declared.kinds.TokenKind.TheVariants as kind
use Rattle.ae_lex.specs.declared.token_list.KeptToken.{KeptToken}
use Rattle.ae_lex.specs.declared.token_list.KeptKind.{KeptKind}
use Rattle.ae_lex.specs.declared.token_list.KeptKind.TheVariants as kept

-- what is kept so, where these are the numerals
abbrev pub kind_of : List TokenKind → KeptKind → TokenKind
kind_of numerals kept.Ident = kind.Ident
kind_of numerals kept.TypeVar = kind.TypeVar
kind_of numerals (kept.Numeral n) = get_or numerals n kind.Ident
kind_of numerals (kept.Reserved r) = kind.Reserved r
kind_of numerals (kept.Sign s) = kind.Sign s

abbrev pub token_of : List TokenKind → KeptToken → Token
token_of numerals t = record { kind = kind_of numerals t.kind; from = t.from; to = t.to }

abbrev pub tokens_of : List TokenKind → List KeptToken → List Token
tokens_of numerals ts = map (token_of numerals) ts

-- a numeral is one of these
abbrev pub IsNumbered : List TokenKind → KeptKind → Type 0
IsNumbered numerals (kept.Numeral n) = n < length numerals
IsNumbered numerals _ = Unit {0}

abbrev pub AreNumbered : List TokenKind → List KeptToken → Type 0
AreNumbered numerals ts = AllByRecursion (λ t. IsNumbered numerals t.kind) ts

-- the second list is the first with more at its end
abbrev pub Grows : List TokenKind → List TokenKind → Type 0
Grows old new = (more : List TokenKind) × (new ≡ old ++ more)
