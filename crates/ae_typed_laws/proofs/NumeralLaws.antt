-- The numerals of a text are within the limits of terms.
use Rattle.std.proofs.Common.{arith, ◌≡◌, ◌∙◌, ◌<◌, ◌≤◌, ◌^◌, ◌*◌, ℕ, zero, suc, ℤ, pos, true, false, not, ◌&&◌, ◌||◌, nat_lt, List, ◌++◌, length}
use Rattle.std.proofs.Common.{refl, ap, subst, Some}
use Rattle.std.specs.Prelude.{int_lt}
use Rattle.std.proofs.Math.Nat.{le-mul_of_pos_right}
use Rattle.std.proofs.lemmas.Bool.{and_from, lt-ltb, ltb-false}
use Rattle.std.proofs.lemmas.Option.{none-some, same_Some}
use Rattle.ae_base.proofs.Tests.{by_bool}
use Rattle.ae_core.specs.Sorts.{within, numeral_ok}
use Rattle.ae_lex.specs.declared.kinds.TokenKind.{TokenKind}
use Rattle.ae_lex.specs.declared.kinds.TokenKind.TheVariants as kind
use Rattle.ae_lex.specs.Lexis.{IsWide, wide_whole, wide_digits, wide_power, IsLowest, HasKind, number}
use Rattle.ae_lex.proofs.NumeralFacts.{ten_positive}
use Rattle.ae_syntax.specs.declared.exprs.Number.{Number}
use Rattle.ae_syntax.specs.declared.exprs.Number.TheVariants as value
use Rattle.ae_syntax.specs.Kinds.{numeral}
use Rattle.ae_typed_laws.proofs.ParsedTrees.{IsNumber}

narrow : (n : ℕ) → ¬ (2 ^ 127 ≤ n) → within (pos n) ≡ true
narrow n h = by_bool (nat_lt n (2 ^ 127)) (λ t. t) (λ f. absurd (h (ltb-false n (2 ^ 127) f)))

whole_number : (n : ℕ) → ¬ (2 ^ 127 ≤ n) → numeral_ok (pos n) (pos 1) false ≡ true
whole_number n h =
    and_from (within (pos n) && within (pos 1) && int_lt (pos 0) (pos 1)) (false || not (int_lt (pos 1) (pos 1)))
    (and_from (within (pos n) && within (pos 1)) (int_lt (pos 0) (pos 1)) (and_from (within (pos n)) (within (pos 1)) (narrow n h) refl) refl) refl

-- a part of a number that is narrow
part_narrow : (n up common : ℕ) → n ≡ up * common → 0 < common → ¬ (2 ^ 127 ≤ n) → ¬ (2 ^ 127 ≤ up)
part_narrow n up common e c h l = h (let x = le-mul_of_pos_right up c in omega (arith, x, l, e))

positive_parts : (n down common : ℕ) → n ≡ down * common → 0 < n → (0 < down) × (0 < common)
positive_parts n zero common e l = absurd (omega (arith, e, l))
positive_parts n (suc down) zero e l = absurd (omega (arith, e, l))
positive_parts n (suc down) (suc common) e l = (omega arith, omega arith)

decimal_number : (a b : ℤ) (n k : ℕ) → IsLowest a b n k → 0 < k → ¬ (2 ^ 127 ≤ n) → ¬ (2 ^ 127 ≤ k) → numeral_ok a b true ≡ true
decimal_number a b n k x l h i =
    let p = positive_parts k x.down x.common x.down_is l in
    let up = narrow x.up (part_narrow n x.up x.common x.up_is p.1 h) in
    let down = narrow x.down (part_narrow k x.down x.common x.down_is p.1 i) in
    let positive : int_lt (pos 0) (pos x.down) ≡ true = lt-ltb 0 x.down p.0 in
    ap (λ z. numeral_ok z b true) x.top_is ∙ ap (λ z. numeral_ok (pos x.up) z true) x.bottom_is
    ∙ and_from (within (pos x.up) && within (pos x.down) && int_lt (pos 0) (pos x.down)) true
    (and_from (within (pos x.up) && within (pos x.down)) (int_lt (pos 0) (pos x.down)) (and_from (within (pos x.up)) (within (pos x.down)) up down) positive) refl

-- the value of a numeral that isn't too wide
pub numeral_within : (k : TokenKind) (w : List ℕ) (n : Number) → HasKind k w → ¬ IsWide w → numeral k ≡ Some n → IsNumber n
numeral_within (kind.Whole z) w n h wide e =
    subst IsNumber (same_Some (value.Whole z) n e) (ap (λ x. numeral_ok x (pos 1) false) h.1 ∙ whole_number (number w) (λ l. wide (wide_whole h.0 l)))
numeral_within (kind.Decimal a b) w n h wide e =
    subst IsNumber (same_Some (value.Decimal a b) n e)
    (decimal_number a b (number (h.before ++ h.after)) (10 ^ length h.after) h.lowest (ten_positive (length h.after))
    (λ l. wide (wide_digits h.before h.after h.form l)) (λ l. wide (wide_power h.before h.after h.form l)))
numeral_within kind.Ident w n h wide e = absurd (none-some n e)
numeral_within kind.TypeVar w n h wide e = absurd (none-some n e)
numeral_within (kind.Reserved r) w n h wide e = absurd (none-some n e)
numeral_within (kind.Sign s) w n h wide e = absurd (none-some n e)
