-- Kinds of tokens that are told to be the same are the same.
use Rattle.std.proofs.Common.{Bool, true, false, ◌≡◌, refl, ap}
use Rattle.std.proofs.lemmas.Bool.{false≢true}
use denote.Enum.Bare.{same_true}
use Rattle.ae_lex.specs.contracts.kinds.Reserved.{the_type as the_words}
use Rattle.ae_lex.specs.contracts.kinds.Sign.{the_type as the_signs}
use Rattle.ae_lex.specs.declared.kinds.TokenKind.{TokenKind}
use Rattle.ae_lex.specs.declared.kinds.TokenKind.TheVariants as kind
use Rattle.ae_syntax.specs.Inner.SameKinds.{same}

pub never : {A : Type 0} → ◌≡◌ {A = Bool} false true → A
never e = absurd (false≢true e)

pub same_is : (k j : TokenKind) → same k j ≡ true → k ≡ j
same_is kind.Ident kind.Ident e = refl
same_is kind.TypeVar kind.TypeVar e = refl
same_is (kind.Reserved r) (kind.Reserved q) e = ap kind.Reserved (same_true the_words tt r q e)
same_is (kind.Sign s) (kind.Sign r) e = ap kind.Sign (same_true the_signs tt s r e)
same_is k j e = never e
