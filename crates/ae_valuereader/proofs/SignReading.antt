-- Whole numbers with a sign, as the grammar reads them.
use Rattle.std.proofs.Common.{ℕ, suc, length, arith, Bool, true, false, ◌&&◌, ◌||◌, cond, nat_eq, List, [], ◌∷◌, ◌≡◌, refl, ap, ◌∙◌}
use mathlib.Core.Logic.{inl, inr}
use Rattle.std.proofs.Math.Bool.{or-false}
use Rattle.std.proofs.lemmas.Bool.{eqb-true}
use Rattle.ae_codes.specs.Codes.{Read, got, stops, Code, both, mapped, words, wide_digits}
use Rattle.ae_codes.specs.Integers.{IntegerEnd, Whole, integer_to, integer_from, wide_whole, whole_is_wide}
use Rattle.ae_codes.specs.Machines.{machine, run}
use Rattle.ae_codes.specs.Numbers.{Closed, Numbers, number_machine, number_step, no_digit}
use Rattle.ae_codes.specs.Numerals.{is_minus}
use Rattle.ae_codes.specs.Nested.{agree_same}
use Rattle.ae_codes.specs.Plans.{Inner, Plan}
use Rattle.ae_codes.specs.Rows.{alone}
use Rattle.ae_readers.specs.Readers.{after_read, wide_or, sign_of}
use Rattle.ae_readers.proofs.Combinators.{after_after, after_same, mapped_is, both_is, one_is, one_none, on_side, checked_is}
use Rattle.ae_valuereader.specs.Signs.{sign_read, signed_read}
use Rattle.ae_valuetext.specs.Wholes.{IsPositive, behind_minus, plain, whole, minus_first, plain_first, whole_narrow, whole_starts, checked_whole, integer, integer_back}

-- ---- one after another, with what is made of it
pub both_then : {A C : Type 0} {B : A → Type 0} (p : Code A) (q : (a : A) → Code (B a)) (bytes : List ℕ) (F : ((a : A) × B a) → List ℕ → Read C)
    → after_read ((both p q).read bytes) F ≡ after_read (p.read bytes) (λ a r. after_read ((q a).read r) (λ b e. F (a, b) e))
both_then {A} {C} {B} p q bytes F =
    ap (λ r. after_read r F) (both_is p q bytes)
    ∙ after_after (p.read bytes) _ F
    ∙ after_same (p.read bytes) _ _ (λ a rest. after_after ((q a).read rest) _ F)

pub mapped_then : {A B C : Type 0} (to : A → B) (from : B → A) (c : Code A) (back : (a : A) → c.Fits a → from (to a) ≡ a) (bytes : List ℕ) (F : B → List ℕ → Read C)
    → after_read ((mapped to from c back).read bytes) F ≡ after_read (c.read bytes) (λ a r. F (to a) r)
mapped_then to from c back bytes F = ap (λ r. after_read r F) (mapped_is to from c back bytes) ∙ after_after (c.read bytes) _ F

-- a byte that stands there
pub byte_then : {C : Type 0} (b : ℕ) (xs : List ℕ) (F : Unit {0} → List ℕ → Read C) → after_read ((alone {A = Unit {0}} tt (b ∷ [])).read (b ∷ xs)) F ≡ F tt xs
unfolding alone words
byte_then b xs F = ap (λ r. after_read r F) ((alone {A = Unit {0}} tt (b ∷ [])).again tt xs refl)

-- what a plan reads hangs on the codes inside alone
pub same_plan : {I : Type 0} {T : I → Type 0} {A : Type 0} (Shape : (i : I) → T i → List ℕ → Type 0) (sure : (i : I) → T i) (p : Plan Shape sure A) (c : (i : I) → Code (T i)) (h k : Inner Shape sure c) (bytes : List ℕ)
    → (p.make c h).read bytes ≡ (p.make c k).read bytes
same_plan Shape sure p c h k bytes = let n = suc (length bytes) in p.agrees c c h k n (λ i. agree_same (c i) n) bytes (omega arith)

-- which of the two tests holds behind a sign, or without one
abbrev pub by_sign : Numbers → Numbers → Bool → Numbers
by_sign p m true = m
by_sign p m false = p

module _ (p m : Numbers) (positive : IsPositive m) where
  abbrev pub digits_by : Bool → List ℕ → Read Closed
  digits_by b bytes = run (number_step (by_sign p m b)) bytes no_digit

  abbrev made : Whole → List ℕ → Read IntegerEnd
  made v rest = got (integer_to v) rest

  abbrev of_sign : Bool → List ℕ → Read IntegerEnd
  of_sign b r = after_read (digits_by b r) (λ v rest. got (sign_of b v.0, v.1) rest)

  minus_is : (xs : List ℕ) → after_read ((behind_minus p m positive).read (45 ∷ xs)) (λ v rest. made (inl v) rest) ≡ of_sign true xs
  unfolding machine number_machine
  minus_is xs =
      both_then (alone {A = Unit {0}} tt (45 ∷ [])) (λ u. machine (number_machine m)) (45 ∷ xs) (λ v rest. made (inl v) rest)
      ∙ byte_then 45 xs (λ u r. after_read (digits_by true r) (λ v rest. made (inl (u, v)) rest))

  plain_is : (bytes : List ℕ) → after_read ((plain p m positive).read bytes) (λ v rest. made (inr v) rest) ≡ of_sign false bytes
  unfolding machine number_machine
  plain_is bytes = refl

  whole_by : (b : Bool) (x : ℕ) (xs : List ℕ) → nat_eq x 45 ≡ b
      → after_read (on_side b ((behind_minus p m positive).read (x ∷ xs)) ((plain p m positive).read (x ∷ xs))) made ≡ cond b (of_sign true xs) (of_sign false (x ∷ xs))
  whole_by true x xs e = let s = eqb-true x 45 e in
      after_after ((behind_minus p m positive).read (x ∷ xs)) _ _ ∙ ap (λ z. after_read ((behind_minus p m positive).read (z ∷ xs)) (λ v rest. made (inl v) rest)) s ∙ minus_is xs
  whole_by false x xs e = after_after ((plain p m positive).read (x ∷ xs)) _ _ ∙ plain_is (x ∷ xs)

  whole_some : (x : ℕ) (xs : List ℕ) → after_read ((whole p m positive).read (x ∷ xs)) made ≡ cond (nat_eq x 45) (of_sign true xs) (of_sign false (x ∷ xs))
  unfolding whole
  whole_some x xs = ap (λ r. after_read r made) (one_is is_minus (behind_minus p m positive) (plain p m positive) (minus_first p m positive) (plain_first p m positive) x xs) ∙ whole_by (nat_eq x 45) x xs refl

  whole_none : after_read ((whole p m positive).read []) made ≡ stops []
  unfolding whole
  whole_none = ap (λ r. after_read r made) (one_none is_minus (behind_minus p m positive) (plain p m positive) (minus_first p m positive) (plain_first p m positive))

  wide_through : (b : Bool) (bytes : List ℕ) (r : Read Whole) → after_read (wide_or b bytes r) made ≡ wide_or b bytes (after_read r made)
  wide_through true bytes r = refl
  wide_through false bytes r = refl

  integer_turn : (bytes : List ℕ) → (integer p m positive).read bytes ≡ wide_or (wide_whole bytes) bytes (after_read ((whole p m positive).read bytes) made)
  unfolding integer
  integer_turn bytes =
      mapped_is integer_to integer_from (checked_whole p m positive) (integer_back p m positive) bytes
      ∙ ap (λ r. after_read r made) (checked_is wide_whole (whole p m positive) (whole_narrow p m positive) whole_is_wide (whole_starts p m positive) bytes)
      ∙ wide_through (wide_whole bytes) bytes ((whole p m positive).read bytes)

  abbrev signed_by : Bool → ℕ → List ℕ → Read IntegerEnd
  signed_by b x xs = after_read (cond b (wide_or (wide_digits xs) (x ∷ xs) (got true xs)) (wide_or (wide_digits (x ∷ xs)) (x ∷ xs) (got false (x ∷ xs)))) of_sign

  told : (w b : Bool) (bytes r : List ℕ) → wide_or w bytes (of_sign b r) ≡ after_read (wide_or w bytes (got b r)) of_sign
  told true b bytes r = refl
  told false b bytes r = refl

  by_first : (b : Bool) (x : ℕ) (xs : List ℕ) → nat_eq x 45 ≡ b → wide_or (wide_digits (x ∷ xs) || (b && wide_digits xs)) (x ∷ xs) (cond b (of_sign true xs) (of_sign false (x ∷ xs))) ≡ signed_by b x xs
  by_first true x xs e = let s = eqb-true x 45 e in
      ap (λ z. wide_or (wide_digits (z ∷ xs) || wide_digits xs) (x ∷ xs) (of_sign true xs)) s ∙ told (wide_digits xs) true (x ∷ xs) xs
  by_first false x xs e = ap (λ b. wide_or b (x ∷ xs) (of_sign false (x ∷ xs))) (or-false (wide_digits (x ∷ xs))) ∙ told (wide_digits (x ∷ xs)) false (x ∷ xs) (x ∷ xs)

  pub integer_is : (bytes : List ℕ) → (integer p m positive).read bytes ≡ signed_read digits_by bytes
  integer_is [] = integer_turn [] ∙ whole_none
  integer_is (x ∷ xs) = integer_turn (x ∷ xs) ∙ ap (wide_or (wide_whole (x ∷ xs)) (x ∷ xs)) (whole_some x xs) ∙ by_first (nat_eq x 45) x xs refl

-- what is read of the digits is alike
pub same_signed : (d d' : Bool → List ℕ → Read Closed) → ((b : Bool) (r : List ℕ) → d b r ≡ d' b r) → (bytes : List ℕ) → signed_read d bytes ≡ signed_read d' bytes
same_signed d d' e bytes = after_same (sign_read bytes) _ _ (λ b r. ap (λ z. after_read z (λ v rest. got (sign_of b v.0, v.1) rest)) (e b r))
