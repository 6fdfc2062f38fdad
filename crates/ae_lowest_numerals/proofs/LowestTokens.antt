-- The value of a numeral of a text is in lowest terms.
use Rattle.std.specs.Prelude.{ℕ, ℤ, pos, ◌+◌, ◌^◌, ◌<◌, ◌≡◌, List, ◌++◌, length, Option, Some, None}
use Rattle.std.specs.List.{AllByRecursion}
use Rattle.std.proofs.Common.{subst, sym}
use Rattle.std.proofs.Math.Nat.{one-dvd}
use Rattle.std.proofs.lemmas.Nat.Gcd.{dvd_refl}
use Rattle.std.specs.Int.{IsGcd, ◌∣◌}
use Rattle.std.proofs.lemmas.Option.{none-some, same_Some}
use Rattle.ae_lex.specs.declared.kinds.Token.{Token}
use Rattle.ae_lex.specs.declared.kinds.TokenKind.{TokenKind}
use Rattle.ae_lex.specs.declared.kinds.TokenKind.TheVariants as kind
use Rattle.ae_lex.specs.declared.kinds.LexFault.{LexFault}
use Rattle.ae_lex.specs.Lexis.{number, IsLowest, HasKind, IsCut, ends, fails, passes, gives, IsTokenized}
use Rattle.ae_lex.proofs.NumeralFacts.{ten_positive, lowest_coprime}
use Rattle.ae_syntax.specs.declared.exprs.Number.{Number}
use Rattle.ae_syntax.specs.declared.exprs.Number.TheVariants as value
use Rattle.ae_syntax.specs.Kinds.{numeral}
use Rattle.ae_lowest_numerals.proofs.LowestTrees.{InLowestTerms, IsLowestNumber}

-- one is the greatest divisor of numbers that have no other
no_divisor : (n m : ℕ) → ((d : ℕ) → d ∣ n → d ∣ m → d ≡ 1) → IsGcd n m 1
no_divisor n m h = (one-dvd n, one-dvd m, λ d a b. subst (λ (x : ℕ). x ∣ 1) (sym (h d a b)) (dvd_refl 1))

whole_lowest : (n : ℕ) → IsGcd n 1 1
whole_lowest n = (one-dvd n, dvd_refl 1, λ d a b. b)

decimal_lowest : (a b : ℤ) (n m : ℕ) → IsLowest a b n m → 0 < m → InLowestTerms a b
decimal_lowest a b n m l h =
    subst (λ (x : ℤ). InLowestTerms x b) (sym l.top_is)
    (subst (λ (x : ℤ). InLowestTerms (pos l.up) x) (sym l.bottom_is) (no_divisor l.up l.down (lowest_coprime a b n m l h)))

kind_lowest : (k : TokenKind) (w : List ℕ) (n : Number) → HasKind k w → numeral k ≡ Some n → IsLowestNumber n
kind_lowest (kind.Whole z) w n h e =
    subst IsLowestNumber (same_Some (value.Whole z) n e) (subst (λ (x : ℤ). InLowestTerms x (pos 1)) (sym h.1) (whole_lowest (number w)))
kind_lowest (kind.Decimal a b) w n h e =
    subst IsLowestNumber (same_Some (value.Decimal a b) n e)
    (decimal_lowest a b (number (h.before ++ h.after)) (10 ^ length h.after) h.lowest (ten_positive (length h.after)))
kind_lowest k w n h e = absurd (none-some n e)

abbrev pub LowestToken : Token → Type 0
LowestToken t = (n : Number) → numeral t.kind ≡ Some n → IsLowestNumber n

cut_lowest : (at : ℕ) (x : List ℕ) (ts : List Token) (o : Option LexFault) → IsCut at x ts o → AllByRecursion LowestToken ts
cut_lowest at x ts o (ends a) = tt
cut_lowest at x ts o (fails a y f h) = tt
cut_lowest at x ts o (passes a y w rest us f e g c) = cut_lowest (a + length w) rest us f c
cut_lowest at x ts o (gives a y w rest k us f e b c) = (λ n i. kind_lowest k w n b.has_kind i, cut_lowest (a + length w) rest us f c)

pub tokens_lowest : (text : List ℕ) (ts : List Token) → IsTokenized text ts → AllByRecursion LowestToken ts
tokens_lowest text ts c = cut_lowest 0 text ts None c
