-- Whole numbers with a sign, where those from 0 on and those below 0 have tests of their own for their sizes and for the bytes that close them: no `-0`; one
-- outside the limits is told at its first byte, the sign.
use Rattle.std.specs.Prelude.{ℕ, zero, suc, ℤ, pos, ◌+◌, ◌*◌, ◌≤◌, ◌&&◌, ◌||◌, Bool, true, false, IsTrue, nat_eq, nat_le, List, [], ◌∷◌, ◌++◌, ◌≡◌, decimal}
use lib.IntN.{negsuc}
use mathlib.Core.Path.{refl, sym, ap, ◌∙◌}
use mathlib.Core.Logic.{inl, inr}
use mathlib.Core.List.{append-nil}
use native.Mathlib.Omega.{arith}
use Rattle.std.proofs.lemmas.Bool.{ne_eqb, leb-true, le-leb}
use Rattle.ae_codes.specs.Codes.{Code, Begins, both, one, mapped, words, is_digit, limit, wide_digits, StartsNumeral}
use Rattle.ae_codes.specs.Machines.{machine, checked}
use Rattle.ae_codes.specs.Numbers.{Closed, Numbers, number_machine, lies, narrow, starts, and_two, and_both, starts_decimal, digit_low}
use Rattle.ae_codes.specs.Numerals.{is_minus, AllDigits, decimal_digits}
use Rattle.ae_codes.specs.Integers.{wide_whole, whole_is_wide, negate, Whole, IntegerEnd, integer_to, integer_from, integer_text}
use Rattle.ae_codes.specs.Rows.{alone}

-- ---- numbers from lo (0 or 1) to the limit, where the bytes that may follow depend on the number
abbrev pub sized : (lo : ℕ) (ends : ℕ → ℕ → Bool) → lo ≤ 1 → ((n x : ℕ) → is_digit x ≡ true → ends n x ≡ false) → ((n : ℕ) → (x : ℕ) × IsTrue (ends n x)) → Numbers
sized lo ends small apart end = record {
  good = lies lo limit;
  live = lies lo limit;
  ends = ends;
  good_live = λ n g. g;
  shorter = λ n d s h l.
      let up = leb-true (n * 10 + d) limit (and_two (nat_le lo (n * 10 + d)) (nat_le (n * 10 + d) limit) l) in
      and_both (nat_le lo n) (nat_le n limit) (le-leb lo n (omega arith)) (le-leb n limit (omega arith));
  goes = λ n l. (n, [], l, sym (append-nil (decimal n)));
  within = λ n l. let up = leb-true n limit (and_two (nat_le lo n) (nat_le n limit) l) in omega arith;
  apart = apart;
  some = (1, and_both (nat_le lo 1) (nat_le 1 limit) (le-leb lo 1 small) refl);
  end = λ n g. end n;
}

-- a number from 1 on, for those below 0
abbrev pub IsPositive : Numbers → Type 0
IsPositive m = (n : ℕ) → IsTrue (m.good n) → 1 ≤ n

module _ (p m : Numbers) (positive : IsPositive m) where
  abbrev pub behind_minus : Code ((u : Unit {0}) × Closed)
  behind_minus = both (alone {A = Unit {0}} tt (45 ∷ [])) (λ u. machine (number_machine m))

  abbrev pub plain : Code Closed
  plain = machine (number_machine p)

  pub minus_first : Begins behind_minus is_minus true
  unfolding both alone words
  minus_first a f = (45, _, refl, refl)

  digit_first : (ds : List ℕ) (e : ℕ) → AllDigits ds → StartsNumeral (ds ++ []) → (x : ℕ) × (xs : List ℕ) × (ds ++ e ∷ [] ≡ x ∷ xs) × IsTrue (is_digit x)
  digit_first [] e a s = absurd s
  digit_first (x ∷ ds) e a s = (x, ds ++ e ∷ [], refl, a.0)

  small : (v : Closed) → plain.Fits v → v.0 ≤ limit
  unfolding machine number_machine
  small v f = p.within v.0 (p.good_live v.0 f.0)

  first_digit : (v : Closed) → plain.Fits v → (x : ℕ) × (xs : List ℕ) × (plain.text v ≡ x ∷ xs) × IsTrue (is_digit x)
  unfolding machine number_machine
  first_digit v f = let b = small v f in digit_first (decimal v.0) v.1 (decimal_digits v.0 (omega arith)) (starts_decimal v.0 (omega arith) [])

  pub plain_first : Begins plain is_minus false
  plain_first a f = let d = first_digit a f in let lo = digit_low d.0 d.3 in (d.0, d.1, d.2, ne_eqb d.0 45 (λ e. omega arith))

  unfoldable pub whole : Code Whole
  whole = one is_minus behind_minus plain minus_first plain_first

  plain_narrow : (bytes : List ℕ) (x : ℕ) (xs : List ℕ) → bytes ≡ x ∷ xs → IsTrue (is_digit x) → wide_digits bytes ≡ false → wide_whole bytes ≡ false
  plain_narrow bytes x xs e d n = ap wide_whole e ∙ go (wide_digits (x ∷ xs)) (nat_eq x 45) (ap wide_digits (sym e) ∙ n) (let lo = digit_low x d in ne_eqb x 45 (λ q. omega arith))
    where
      go : (a b : Bool) → a ≡ false → b ≡ false → a || (b && wide_digits xs) ≡ false
      go true b p q = p
      go false true p q = absurd cc
      go false false p q = refl

  pub whole_narrow : (v : Whole) (rest : List ℕ) → whole.Fits v → wide_whole (whole.text v ++ rest) ≡ false
  unfolding whole one both alone words
  whole_narrow (inl v) rest f = narrow m v.1 rest f.1
  whole_narrow (inr v) rest f = let d = first_digit v f in plain_narrow (plain.text v ++ rest) d.0 (d.1 ++ rest) (ap (λ z. z ++ rest) d.2) d.3 (narrow p v rest f)

  pub whole_starts : (v : Whole) → whole.Fits v → StartsNumeral (whole.text v)
  unfolding whole one both alone words
  whole_starts (inl v) f = refl
  whole_starts (inr v) f = starts p v f

  abbrev pub checked_whole : Code Whole
  checked_whole = checked wide_whole whole whole_narrow whole_is_wide whole_starts

  above_zero : (v : Closed) → (machine (number_machine m)).Fits v → 1 ≤ v.0
  unfolding machine number_machine
  above_zero v f = positive v.0 f.0

  minus_back : (n e : ℕ) → 1 ≤ n → integer_from (negate n, e) ≡ inl (tt, (n, e))
  minus_back zero e h = absurd (omega arith)
  minus_back (suc n) e h = refl

  pub integer_back : (v : Whole) → checked_whole.Fits v → integer_from (integer_to v) ≡ v
  unfolding checked whole one both alone words
  integer_back (inl v) f = minus_back v.1.0 v.1.1 (above_zero v.1 f.1)
  integer_back (inr v) f = refl

  unfoldable pub integer : Code IntegerEnd
  integer = mapped integer_to integer_from checked_whole integer_back

  pub integer_spelled : (v : IntegerEnd) → integer.text v ≡ integer_text v.0 ++ v.1 ∷ []
  unfolding integer mapped checked whole one both alone words machine number_machine
  integer_spelled (pos n, e) = refl
  integer_spelled (negsuc n, e) = refl

  -- a number passes its test, and so does the byte that closes it
  abbrev pub Passes : ℤ → ℕ → Type 0
  Passes (pos n) e = IsTrue (p.good n) × IsTrue (p.ends n e)
  Passes (negsuc n) e = IsTrue (m.good (suc n)) × IsTrue (m.ends (suc n) e)

  pub integer_passes : (z : ℤ) (e : ℕ) → integer.Fits (z, e) → Passes z e
  unfolding integer mapped checked whole one both alone words machine number_machine
  integer_passes (pos n) e f = f.0
  integer_passes (negsuc n) e f = f.0.1

  pub passing_fits : (z : ℤ) (e : ℕ) → Passes z e → integer.Fits (z, e)
  unfolding integer mapped checked whole one both alone words machine number_machine
  passing_fits (pos n) e f = (f, refl)
  passing_fits (negsuc n) e f = ((refl, f), refl)

  pub integer_starts : (v : IntegerEnd) → integer.Fits v → StartsNumeral (integer.text v)
  unfolding integer mapped checked
  integer_starts v f = whole_starts (integer_from v) f.0
