-- Kinds of tokens: what an operator, a numeral or a word stands for.
use Rattle.std.specs.Prelude.{Bool, true, false, Option, Some, None}
use Rattle.ae_lex.specs.declared.kinds.TokenKind.{TokenKind}
use Rattle.ae_lex.specs.declared.kinds.TokenKind.TheVariants as kind
use Rattle.ae_lex.specs.declared.kinds.Reserved.TheVariants as word
use Rattle.ae_lex.specs.declared.kinds.Sign.TheVariants as sign
use Rattle.ae_syntax.specs.declared.exprs.BinaryOp.{BinaryOp}
use Rattle.ae_syntax.specs.declared.exprs.BinaryOp.TheVariants as op
use Rattle.ae_syntax.specs.declared.exprs.Quantifier.{Quantifier}
use Rattle.ae_syntax.specs.declared.exprs.Quantifier.TheVariants as quantifier
use Rattle.ae_syntax.specs.declared.exprs.Number.{Number}
use Rattle.ae_syntax.specs.declared.exprs.Number.TheVariants as number

-- the lines `arrow` and `rel`, and the signs of `sum` and `prod`
abbrev pub arrow : TokenKind → Option BinaryOp
arrow (kind.Sign sign.Arrow) = Some op.Implies
arrow (kind.Sign sign.Iff) = Some op.Iff
arrow (kind.Reserved word.Xor) = Some op.Xor
arrow _ = None

abbrev pub relation : TokenKind → Option BinaryOp
relation (kind.Sign sign.Equal) = Some op.Equal
relation (kind.Sign sign.NotEqual) = Some op.NotEqual
relation (kind.Sign sign.Less) = Some op.Less
relation (kind.Sign sign.AtMost) = Some op.AtMost
relation (kind.Sign sign.Greater) = Some op.Greater
relation (kind.Sign sign.AtLeast) = Some op.AtLeast
relation _ = None

abbrev pub additive : TokenKind → Option BinaryOp
additive (kind.Sign sign.Plus) = Some op.Add
additive (kind.Sign sign.Minus) = Some op.Sub
additive _ = None

abbrev pub multiplicative : TokenKind → Option BinaryOp
multiplicative (kind.Sign sign.Star) = Some op.Mul
multiplicative (kind.Sign sign.Slash) = Some op.Div
multiplicative (kind.Sign sign.Percent) = Some op.Rem
multiplicative _ = None

abbrev pub quantifies : TokenKind → Option Quantifier
quantifies (kind.Reserved word.Forall) = Some quantifier.Forall
quantifies (kind.Reserved word.Exists) = Some quantifier.Exists
quantifies _ = None

abbrev pub numeral : TokenKind → Option Number
numeral (kind.Whole n) = Some (number.Whole n)
numeral (kind.Decimal top bottom) = Some (number.Decimal top bottom)
numeral _ = None

-- the words that the language has and this profile leaves out
abbrev pub is_outside : TokenKind → Bool
is_outside (kind.Reserved word.Bitv) = true
is_outside (kind.Reserved word.CaseSplit) = true
is_outside (kind.Reserved word.Check) = true
is_outside (kind.Reserved word.CheckSat) = true
is_outside (kind.Reserved word.Cut) = true
is_outside (kind.Reserved word.End) = true
is_outside (kind.Reserved word.Extends) = true
is_outside (kind.Reserved word.Match) = true
is_outside (kind.Reserved word.Of) = true
is_outside (kind.Reserved word.Rewriting) = true
is_outside (kind.Reserved word.Theory) = true
is_outside _ = false
