-- Numbers as codes read them.
use borrow.Author.Differences.{ints}
use Rattle.std.proofs.Common.{arith}
use Rattle.std.proofs.Math.IntN.{◌-ℤ◌}
use Rattle.std.proofs.lemmas.Int.{to_z_pos, to_z-of_z, fits_signed_from_abs}
use Rattle.std.specs.Int.{w128}
use mir.Val.{SFits, of_z, to_z}
use Rattle.std.specs.Prelude.{ℕ, zero, suc, ◌<◌, ◌^◌, pos, unsigned_abs, Bool, true, false, ◌||◌, ◌&&◌, cond, nat_eq, List, [], ◌∷◌, ◌≡◌}
use mathlib.Core.Logic.{inl, inr}
use mathlib.Core.Path.{refl, sym, ap, ◌∙◌, subst}
use Rattle.std.proofs.lemmas.Bool.{eqb-true}
use Rattle.ae_codes.specs.Codes.{Read, got, stops, words, limit, wide_digits}
use Rattle.ae_codes.specs.Closers.{Close, closers, close_end, sizes}
use Rattle.ae_codes.specs.Machines.{machine}
use Rattle.ae_codes.specs.Numbers.{number, number_machine, number_is_read, read_digits, no_digit}
use Rattle.ae_codes.specs.Integers as integers
use Rattle.ae_codes.specs.Integers.{integer, integer_to, IntegerEnd, negate, whole, wide_whole}
use Rattle.ae_codes.specs.Rows.{alone}
use Rattle.ae_readers.specs.Readers.{after_read, greatest_size, size_read, or_stroke, integer_at, integer_read, positive_read, negative_read, wide_or}
use Rattle.ae_readers.proofs.Combinators.{after_after, mapped_is, both_is, one_none, one_is, on_side, checked_is}

pub size_is_read : (k : Close) (bytes : List ℕ) → (number (sizes k)).read bytes ≡ size_read (closers k.one k.two) bytes
size_is_read k bytes = number_is_read (sizes k) 0 greatest_size (closers k.one k.two) refl refl refl bytes

-- ---- whole numbers with a sign
sign_read : (xs : List ℕ) → (alone {A = Unit {0}} tt (45 ∷ [])).read (45 ∷ xs) ≡ got tt xs
unfolding alone words
sign_read xs = (alone {A = Unit {0}} tt (45 ∷ [])).again tt xs refl

module _ (k : Close) where
  abbrev ends : ℕ → Bool
  ends = closers k.one k.two

  abbrev signed : IntegerEnd → List ℕ → Read IntegerEnd
  signed v rest = got v rest

  -- the digits behind the sign
  minus_is : (xs : List ℕ) → (integers.minus ends k.digits (close_end k)).read (45 ∷ xs) ≡ after_read (read_digits 1 limit ends xs no_digit) (λ v rest. got (tt, v) rest)
  unfolding machine number_machine
  minus_is xs = both_is _ _ (45 ∷ xs) ∙ ap (λ r. after_read r (λ u rest. after_read (read_digits 1 limit ends rest no_digit) (λ v end. got (u, v) end))) (sign_read xs)

  whole_minus : (xs : List ℕ) → (whole ends k.digits (close_end k)).read (45 ∷ xs) ≡ after_read (read_digits 1 limit ends xs no_digit) (λ v rest. got (inl (tt, v)) rest)
  unfolding whole
  whole_minus xs = one_is _ _ _ _ _ 45 xs ∙ ap (λ r. after_read r (λ a rest. got (inl a) rest)) (minus_is xs) ∙ after_after (read_digits 1 limit ends xs no_digit) _ _

  whole_plus : (x : ℕ) (xs : List ℕ) → nat_eq x 45 ≡ false → (whole ends k.digits (close_end k)).read (x ∷ xs) ≡ after_read (read_digits 0 limit ends (x ∷ xs) no_digit) (λ v rest. got (inr v) rest)
  unfolding whole machine number_machine
  whole_plus x xs e = one_is _ _ _ _ _ x xs ∙ ap (λ b. on_side b ((integers.minus ends k.digits (close_end k)).read (x ∷ xs)) (read_digits 0 limit ends (x ∷ xs) no_digit)) e

  wide_after : (b : Bool) (bytes : List ℕ) (r : Read integers.Whole) → after_read (wide_or b bytes r) (λ v rest. got (integer_to v) rest) ≡ wide_or b bytes (after_read r (λ v rest. got (integer_to v) rest))
  wide_after true bytes r = refl
  wide_after false bytes r = refl

  integer_turn : (bytes : List ℕ) → (integer_at k).read bytes ≡ wide_or (wide_whole bytes) bytes (after_read ((whole ends k.digits (close_end k)).read bytes) (λ v rest. got (integer_to v) rest))
  unfolding integer
  integer_turn bytes =
      mapped_is _ _ _ _ bytes
      ∙ ap (λ r. after_read r (λ v rest. got (integer_to v) rest)) (checked_is _ _ _ _ _ bytes)
      ∙ wide_after (wide_whole bytes) bytes ((whole ends k.digits (close_end k)).read bytes)

  whole_none : (whole ends k.digits (close_end k)).read [] ≡ stops []
  unfolding whole
  whole_none = one_none _ _ _ _ _

  at_minus : (xs : List ℕ) → (integer_at k).read (45 ∷ xs) ≡ negative_read ends (45 ∷ xs) xs
  at_minus xs = integer_turn (45 ∷ xs) ∙ ap (λ r. wide_or (wide_digits xs) (45 ∷ xs) r) (ap (λ r. after_read r (λ v rest. got (integer_to v) rest)) (whole_minus xs) ∙ after_after (read_digits 1 limit ends xs no_digit) _ _)

  or_none : (b : Bool) → b ≡ b || false
  or_none true = refl
  or_none false = refl

  at_plus : (x : ℕ) (xs : List ℕ) → nat_eq x 45 ≡ false → (integer_at k).read (x ∷ xs) ≡ positive_read ends (x ∷ xs)
  at_plus x xs e =
      integer_turn (x ∷ xs)
      ∙ ap (λ b. wide_or (wide_digits (x ∷ xs) || (b && wide_digits xs)) (x ∷ xs) (after_read ((whole ends k.digits (close_end k)).read (x ∷ xs)) (λ v rest. got (integer_to v) rest))) e
      ∙ ap (λ b. wide_or b (x ∷ xs) (after_read ((whole ends k.digits (close_end k)).read (x ∷ xs)) (λ v rest. got (integer_to v) rest))) (sym (or_none (wide_digits (x ∷ xs))))
      ∙ ap (λ r. wide_or (wide_digits (x ∷ xs)) (x ∷ xs) r) (ap (λ r. after_read r (λ v rest. got (integer_to v) rest)) (whole_plus x xs e) ∙ after_after (read_digits 0 limit ends (x ∷ xs) no_digit) _ _)

  by_sign : (b : Bool) (x : ℕ) (xs : List ℕ) → nat_eq x 45 ≡ b → (integer_at k).read (x ∷ xs) ≡ cond b (negative_read ends (x ∷ xs) xs) (positive_read ends (x ∷ xs))
  by_sign true x xs e = let s = eqb-true x 45 e in ap (λ z. (integer_at k).read (z ∷ xs)) s ∙ at_minus xs ∙ ap (λ z. negative_read ends (z ∷ xs) xs) (sym s)
  by_sign false x xs e = at_plus x xs e

  pub integer_is_read : (bytes : List ℕ) → (integer_at k).read bytes ≡ integer_read (or_stroke false k) bytes
  integer_is_read [] = integer_turn [] ∙ ap (λ r. after_read r (λ v rest. got (integer_to v) rest)) whole_none
  integer_is_read (x ∷ xs) = by_sign (nat_eq x 45) x xs refl

-- ---- sizes with a sign
minus_is_negate : (n : ℕ) → pos 0 -ℤ pos n ≡ negate n
minus_is_negate zero = refl
minus_is_negate (suc n) = omega (arith, ints)

size_back : (n : ℕ) → unsigned_abs (negate n) ≡ n
size_back zero = refl
size_back (suc n) = refl

pub positive_fits : (n : ℕ) → n < 2 ^ 127 → SFits w128 (pos n)
positive_fits n h = fits_signed_from_abs w128 (pos n) h

negative_is : (n : ℕ) → n < 2 ^ 127 → pos 0 -ℤ to_z w128 n ≡ negate n
negative_is n h = ap (λ z. pos 0 -ℤ z) (to_z_pos w128 n h) ∙ minus_is_negate n

pub negative_fits : (n : ℕ) → n < 2 ^ 127 → SFits w128 (pos 0 -ℤ to_z w128 n)
negative_fits n h = subst (SFits w128) (sym (negative_is n h)) (fits_signed_from_abs w128 (negate n) (subst (λ z. z < 2 ^ 127) (sym (size_back n)) h))

pub negative_back : (n : ℕ) → n < 2 ^ 127 → to_z w128 (of_z w128 (pos 0 -ℤ to_z w128 n)) ≡ negate n
negative_back n h = to_z-of_z w128 (pos 0 -ℤ to_z w128 n) (negative_fits n h) ∙ negative_is n h
