-- The kinds of tokens: each has a form, and a form has one kind.
use Rattle.std.proofs.Common.{ℕ, suc, ◌≤◌, List, [], ◌∷◌, ◌≡◌, length, sym, ap, subst, arith}
use Rattle.ae_lex.specs.declared.kinds.TokenKind.{TokenKind}
use Rattle.ae_lex.specs.declared.kinds.TokenKind.TheVariants as kind
use Rattle.ae_lex.specs.Lexis.{IsWord, whole, pointed, IsToken, word, type_var, numeral, sign, HasKind, IsGap, blank, comment}
use Rattle.ae_lex.proofs.Forms.{no_empty_token}
use Rattle.ae_lex.proofs.Tables.{reserved_is_word}

pub has_form : (k : TokenKind) (w : List ℕ) → HasKind k w → IsToken w
has_form kind.Ident w h = word h.0
has_form kind.TypeVar w h = type_var h
has_form (kind.Whole n) w h = numeral (whole h.0)
has_form (kind.Decimal top bottom) w h = numeral (pointed h.before h.after h.form)
has_form (kind.Reserved r) w h = word (subst IsWord (sym h) (reserved_is_word r))
has_form (kind.Sign s) w h = sign s h

pub gap_some : (w : List ℕ) → IsGap w → 1 ≤ length w
gap_some w (blank b e i) = let n : length w ≡ 1 = ap length e in omega (arith, n)
gap_some w (comment c) = let n : length w ≡ suc (suc (length c.0)) = ap length c.1 in omega (arith, n)

pub token_some : (k : TokenKind) (w : List ℕ) → HasKind k w → 1 ≤ length w
token_some k [] h = absurd (no_empty_token (has_form k [] h))
token_some k (b ∷ w) h = omega arith
