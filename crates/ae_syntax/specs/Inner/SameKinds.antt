-- Whether two kinds are the same word or sign, or both identifiers or type variables, as a test. Numerals aren't compared.
use Rattle.std.specs.Prelude.{Bool, true, false}
use denote.Enum.Bare.{sameb}
use Rattle.ae_lex.specs.contracts.kinds.Reserved.{the_type as the_words}
use Rattle.ae_lex.specs.contracts.kinds.Sign.{the_type as the_signs}
use Rattle.ae_lex.specs.declared.kinds.TokenKind.{TokenKind}
use Rattle.ae_lex.specs.declared.kinds.TokenKind.TheVariants as kind

abbrev pub same : TokenKind → TokenKind → Bool
same kind.Ident kind.Ident = true
same kind.TypeVar kind.TypeVar = true
same (kind.Reserved r) (kind.Reserved q) = sameb the_words r q
same (kind.Sign s) (kind.Sign r) = sameb the_signs s r
same _ _ = false
