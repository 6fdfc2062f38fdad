-- The bytes that may close a text: one of two, none of which is a digit, a small letter or `@`.
use Rattle.std.specs.Prelude.{ℕ, suc, ◌-◌, ◌^◌, ◌≤◌, ◌<◌, ◌⊎◌, Bool, true, false, ◌||◌, IsTrue, nat_eq, List, [], ◌∷◌, ◌++◌, ◌≡◌, length}
use mathlib.Core.Path.{refl, ap}
use mathlib.Core.Logic.{inl, inr}
use native.Mathlib.Omega.{arith}
use Rattle.std.proofs.lemmas.Bool.{ne_eqb, eq-eqb, eqb-true}
use Rattle.ae_codes.specs.Codes.{is_digit}
use Rattle.ae_codes.specs.Fractions.{or_cases}
use Rattle.ae_codes.specs.Numbers.{Numbers, from_to, or_one, digit_low, digit_high}

-- one of two bytes
abbrev pub closers : ℕ → ℕ → ℕ → Bool
closers a b x = nat_eq x a || nat_eq x b

-- the two bytes that may close a text
pub record Close : Type 0 where
  pub one : ℕ
  pub two : ℕ
  pub digits : (x : ℕ) → is_digit x ≡ true → closers one two x ≡ false
  pub letters : (x : ℕ) → 96 < x → closers one two x ≡ false
  pub at_sign : closers one two 64 ≡ false

pub close_end : (k : Close) → (e : ℕ) × IsTrue (closers k.one k.two e)
close_end k = (k.one, or_one (nat_eq k.one k.one) (nat_eq k.one k.two) (eq-eqb k.one k.one refl))

-- numbers of 64 bits
abbrev pub sizes : (k : Close) → Numbers
sizes k = from_to 0 (2 ^ 64 - 1) (closers k.one k.two) (omega arith) (omega arith) (omega arith) k.digits (close_end k)

pub closers_false : (a b x : ℕ) → (x ≡ a → ⊥) → (x ≡ b → ⊥) → closers a b x ≡ false
closers_false a b x n m = go (nat_eq x a) (ne_eqb x a n)
  where
    go : (t : Bool) → t ≡ false → t || nat_eq x b ≡ false
    go true e = e
    go false e = ne_eqb x b m

pub closes_round : (a b x : ℕ) → IsTrue (closers a b x) → (x ≡ a) ⊎ (x ≡ b)
closes_round a b x h = go (nat_eq x a) refl h
  where
    go : (t : Bool) → nat_eq x a ≡ t → IsTrue (t || nat_eq x b) → (x ≡ a) ⊎ (x ≡ b)
    go true e k = inl (eqb-true x a e)
    go false e k = inr (eqb-true x b k)

-- ---- which pairs there are
pub figures_apart : (a b : ℕ) → (a < 48) ⊎ (57 < a) → (b < 48) ⊎ (57 < b) → (x : ℕ) → is_digit x ≡ true → closers a b x ≡ false
figures_apart a b p q x d =
    let lo = digit_low x d in
    let hi = digit_high x d in
    closers_false a b x (λ e. elim p [ inl l ↦ omega arith | inr l ↦ omega arith ]) (λ e. elim q [ inl l ↦ omega arith | inr l ↦ omega arith ])

pub letters_apart : (a b : ℕ) → a < 96 → b < 96 → (x : ℕ) → 96 < x → closers a b x ≡ false
letters_apart a b p q x h = closers_false a b x (λ e. omega arith) (λ e. omega arith)

-- a blank, `)`, the end of a line
unfoldable pub by_blank : Close
by_blank = record { one = 32; two = 32; digits = figures_apart 32 32 (inl (omega arith)) (inl (omega arith)); at_sign = refl; letters = letters_apart 32 32 (omega arith) (omega arith) }

unfoldable pub by_bracket : Close
by_bracket = record { one = 41; two = 41; digits = figures_apart 41 41 (inl (omega arith)) (inl (omega arith)); at_sign = refl; letters = letters_apart 41 41 (omega arith) (omega arith) }

unfoldable pub by_line : Close
by_line = record { one = 10; two = 10; digits = figures_apart 10 10 (inl (omega arith)) (inl (omega arith)); at_sign = refl; letters = letters_apart 10 10 (omega arith) (omega arith) }

-- a blank or `]`
unfoldable pub square : Close
square = record { one = 32; two = 93; digits = figures_apart 32 93 (inl (omega arith)) (inr (omega arith)); at_sign = refl; letters = letters_apart 32 93 (omega arith) (omega arith) }

pub closes_one : (a x : ℕ) → IsTrue (closers a a x) → x ≡ a
closes_one a x h = elim (or_cases (nat_eq x a) (nat_eq x a) h) [ inl e ↦ eqb-true x a e | inr e ↦ eqb-true x a e ]

-- inside round brackets
unfoldable pub round : Close
round = record {
  one = 32;
  two = 41;
  digits = λ x d. let lo = digit_low x d in closers_false 32 41 x (λ e. omega arith) (λ e. omega arith);
  at_sign = refl;
  letters = λ x h. closers_false 32 41 x (λ e. omega arith) (λ e. omega arith);
}

-- a blank or the end of a line
unfoldable pub in_line : Close
in_line = record { one = 32; two = 10; digits = figures_apart 32 10 (inl (omega arith)) (inl (omega arith)); at_sign = refl; letters = letters_apart 32 10 (omega arith) (omega arith) }

-- ---- what has a byte is no empty text
pub end_long : (w : List ℕ) (e : ℕ) → 1 ≤ length (w ++ e ∷ [])
end_long [] e = omega arith
end_long (x ∷ w) e = omega arith

pub long_of : (w : List ℕ) (x : ℕ) (xs : List ℕ) → w ≡ x ∷ xs → 1 ≤ length w
long_of w x xs e = let l : length w ≡ suc (length xs) = ap length e in omega arith
