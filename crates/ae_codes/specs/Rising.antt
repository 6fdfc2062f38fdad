-- Lists of numbers that rise, each with the least number that may stand next: a blank between two, and `]` behind the last. `next` says which
-- number may follow at least: the next one where each stands once, the same one where a number may stand again.
use Rattle.std.specs.Prelude.{ℕ, suc, ◌-◌, ◌^◌, ◌≤◌, ◌⊎◌, ◌&&◌, ◌||◌, Bool, true, false, IsTrue, nat_eq, nat_le, List, [], ◌∷◌, ◌++◌, ◌≡◌, length, map, decimal}
use mathlib.Core.Path.{refl, sym, ap, ◌∙◌}
use mathlib.Core.Logic.{inl, inr}
use mathlib.Core.List.{append-nil}
use native.Mathlib.Omega.{arith}
use Rattle.std.proofs.lemmas.Bool.{eqb-true, ne_eqb, leb-true, le-leb}
use Rattle.ae_codes.specs.Codes.{Code, is_digit, limit, Begins, StartsNumeral, both, one, mapped, words}
use Rattle.ae_codes.specs.Machines.{machine, checked}
use Rattle.ae_codes.specs.Numbers.{Closed, Numbers, number, number_machine, and_one, and_two, and_both, digit_low, digit_high, starts}
use Rattle.ae_codes.specs.Fractions.{or_cases, passing_by}
use Rattle.ae_codes.specs.Nested.{Shaped}
use Rattle.ae_codes.specs.Rows.{alone, empty}
use Rattle.ae_codes.specs.Plans.{Inner, Plan, Tight, Layers, fixed, fixed_tight, inside, sequence, sequence_tight, sends, sends_tight, coded, coded_shaped, coded_text}
use Rattle.ae_codes.specs.Listings.{joined, listed_text, is_byte}

-- the greatest number
abbrev pub top : ℕ
top = 2 ^ 64 - 1

abbrev pub from_low : ℕ → ℕ → Bool
from_low low n = nat_le low n && nat_le n top

-- a number may be followed by `]`, and by a blank where a greater one may stand
abbrev pub goes_on : (ℕ → ℕ) → ℕ → ℕ → Bool
goes_on next n x = nat_eq x 93 || (nat_eq x 32 && nat_le (next n) top)

pub low_bound : (low n : ℕ) → IsTrue (from_low low n) → n ≤ limit
low_bound low n h = let l = leb-true n top (and_two (nat_le low n) (nat_le n top) h) in omega arith

pub goes_apart : (next : ℕ → ℕ) (n x : ℕ) → is_digit x ≡ true → goes_on next n x ≡ false
goes_apart next n x d = go (nat_eq x 93) (nat_eq x 32) (let l = digit_low x d in let h = digit_high x d in ne_eqb x 93 (λ e. omega arith)) (let l = digit_low x d in ne_eqb x 32 (λ e. omega arith))
  where
    go : (a b : Bool) → a ≡ false → b ≡ false → a || (b && nat_le (next n) top) ≡ false
    go true b p q = p
    go false true p q = absurd cc
    go false false p q = refl

module _ (next : ℕ → ℕ) where
  -- the least number that may stand, at most the greatest
  abbrev pub Low : Type 0
  Low = (n : ℕ) × (n ≤ top)

  abbrev pub numbers_at : Low → Numbers
  numbers_at i = passing_by (from_low i.0) (low_bound i.0) (goes_on next) (goes_apart next) (top, and_both (nat_le i.0 top) (nat_le top top) (le-leb i.0 top i.1) refl) (λ n g. (93, refl))

  abbrev pub some_shape : Low → List ℕ → List ℕ → Type 0
  some_shape i ns w = ((n : ℕ) × (more : List ℕ) × (ns ≡ n ∷ more)) × ((x : ℕ) × (xs : List ℕ) × (w ≡ x ∷ xs) × (is_byte 93 x ≡ false))

  abbrev pub sure_number : Low → List ℕ
  sure_number i = top ∷ []

  abbrev pub RisingPlan : Type 0 → Type 1
  RisingPlan = Plan {T = λ i. List ℕ} some_shape sure_number

  abbrev pub RisingCodes : Type 1
  RisingCodes = (i : Low) → Code (List ℕ)

  abbrev pub RisingInner : RisingCodes → Type 0
  RisingInner = Inner {T = λ i. List ℕ} some_shape sure_number

  abbrev pub first_number : Low → RisingPlan Closed
  first_number i = fixed {T = λ i. List ℕ} some_shape sure_number (number (numbers_at i))

  pub low_dec : (b : Bool) (n : ℕ) → nat_le (next n) top ≡ b → Dec (next n ≤ top)
  low_dec true n e = yes (leb-true (next n) top e)
  low_dec false n e = no (λ l. let t = le-leb (next n) top l in absurd cc)

  abbrev pub can_rise : (n : ℕ) → Dec (next n ≤ top)
  can_rise n = low_dec (nat_le (next n) top) n refl

  unfoldable pub rest_by : Bool → (n : ℕ) → Dec (next n ≤ top) → RisingPlan (List ℕ)
  rest_by true n (yes l) = inside {T = λ i. List ℕ} some_shape sure_number (next n, l)
  rest_by true n (no m) = fixed {T = λ i. List ℕ} some_shape sure_number (empty [])
  rest_by false n d = fixed {T = λ i. List ℕ} some_shape sure_number (empty [])

  abbrev pub rest_of : Closed → RisingPlan (List ℕ)
  rest_of v = rest_by (nat_eq v.1 32) v.0 (can_rise v.0)

  abbrev pub RawRising : Type 0
  RawRising = (v : Closed) × List ℕ

  abbrev pub raw_rising : Low → RisingPlan RawRising
  raw_rising i = sequence {T = λ i. List ℕ} some_shape sure_number (first_number i) rest_of

  abbrev pub rising_to : RawRising → List ℕ
  rising_to v = v.0.0 ∷ v.1

  abbrev pub close_by : List ℕ → ℕ
  close_by [] = 93
  close_by (x ∷ xs) = 32

  abbrev pub rising_from : List ℕ → RawRising
  rising_from [] = ((0, 93), [])
  rising_from (n ∷ ns) = ((n, close_by ns), ns)

  pub ends_so : (c : RisingCodes) (h : RisingInner c) (b : Bool) (n e : ℕ) (d : Dec (next n ≤ top)) (ns : List ℕ) → nat_eq e 32 ≡ b → IsTrue (goes_on next n e) → ((rest_by b n d).make c h).Fits ns → e ≡ close_by ns
  unfolding rest_by inside fixed empty
  ends_so c h true n e (yes l) ns q g f = eqb-true e 32 q ∙ sym (ap close_by (((h (next n, l)).form ns f).0.2))
  ends_so c h true n e (no m) ns q g f = absurd (elim (or_cases (nat_eq e 93) (nat_eq e 32 && nat_le (next n) top) g) [
    | inl a ↦ (let x = eqb-true e 93 a in let y = eqb-true e 32 q in omega arith)
    | inr b ↦ m (leb-true (next n) top (and_two (nat_eq e 32) (nat_le (next n) top) b))
  ])
  ends_so c h false n e d ns q g f = elim (or_cases (nat_eq e 93) (nat_eq e 32 && nat_le (next n) top) g) [
    | inl a ↦ eqb-true e 93 a ∙ sym (ap close_by f)
    | inr b ↦ absurd (let y : nat_eq e 32 ≡ true = and_one (nat_eq e 32) (nat_le (next n) top) b in cc)
  ]

  pub closed_so : (i : Low) (v : Closed) → (number (numbers_at i)).Fits v → IsTrue (goes_on next v.0 v.1)
  unfolding number checked machine number_machine passing_by
  closed_so i v f = f.1

  pub rising_back : (i : Low) (c : RisingCodes) (h : RisingInner c) (v : RawRising) → ((raw_rising i).make c h).Fits v → rising_from (rising_to v) ≡ v
  unfolding sequence both fixed
  rising_back i c h (v, ns) f = let e = ends_so c h (nat_eq v.1 32) v.0 v.1 (can_rise v.0) ns refl (closed_so i v f.0) f.1 in λ j. ((v.0, sym e j), ns)

  abbrev pub rising_plan : Low → RisingPlan (List ℕ)
  rising_plan i = sends {T = λ i. List ℕ} some_shape sure_number rising_to rising_from (raw_rising i) (rising_back i)

  -- ---- the text
  abbrev pub rising_text : List ℕ → List ℕ
  rising_text [] = []
  rising_text (n ∷ ns) = joined 93 (decimal n) (map decimal ns)

  abbrev pub rising_texts : Low → List ℕ → List ℕ
  rising_texts i = rising_text

  pub rest_spelled : (n : ℕ) (d : Dec (next n ≤ top)) (ns : List ℕ) → IsTrue (nat_le (next n) top) → (rest_by true n d).spell rising_texts ns ≡ rising_text ns
  unfolding rest_by inside fixed empty
  rest_spelled n (yes l) ns g = refl
  rest_spelled n (no m) ns g = absurd (m (leb-true (next n) top g))

  pub last_spelled : (n : ℕ) (d : Dec (next n ≤ top)) → (rest_by false n d).spell rising_texts [] ≡ []
  unfolding rest_by fixed empty
  last_spelled n d = refl

  pub number_spelled : (i : Low) (n e : ℕ) → (number (numbers_at i)).text (n, e) ≡ decimal n ++ e ∷ []
  unfolding number checked machine number_machine
  number_spelled i n e = refl

  pub more_stands : (n : ℕ) → IsTrue (goes_on next n 32) → IsTrue (nat_le (next n) top)
  more_stands n g = g

  pub raw_spelled : (i : Low) (c : RisingCodes) (h : RisingInner c) (ns : List ℕ) → rising_to (rising_from ns) ≡ ns → ((raw_rising i).make c h).Fits (rising_from ns) → (raw_rising i).spell rising_texts (rising_from ns) ≡ rising_text ns
  unfolding sequence both fixed
  raw_spelled i c h [] q f = let l : suc 0 ≡ 0 = ap length q in absurd (omega arith)
  raw_spelled i c h (n ∷ []) q f =
      ap (λ z. z ++ (rest_of (n, 93)).spell rising_texts []) (number_spelled i n 93)
      ∙ ap (λ z. (decimal n ++ 93 ∷ []) ++ z) (last_spelled n (can_rise n)) ∙ append-nil (decimal n ++ 93 ∷ [])
  raw_spelled i c h (n ∷ m ∷ ms) q f =
      ap (λ z. z ++ (rest_of (n, 32)).spell rising_texts (m ∷ ms)) (number_spelled i n 32)
      ∙ ap (λ z. (decimal n ++ 32 ∷ []) ++ z) (rest_spelled n (can_rise n) (m ∷ ms) (more_stands n (closed_so i (n, 32) f.0)))

  pub rising_equation : (c : RisingCodes) (h : RisingInner c) (i : Low) (ns : List ℕ) → ((rising_plan i).make c h).Fits ns → (rising_plan i).spell rising_texts ns ≡ rising_text ns
  unfolding sends mapped
  rising_equation c h i ns f = raw_spelled i c h ns f.1 f.0

  -- ---- the first byte
  pub no_square : (x : ℕ) → IsTrue (is_digit x || nat_eq x 45) → is_byte 93 x ≡ false
  no_square x h = elim (or_cases (is_digit x) (nat_eq x 45) h) [
    | inl d ↦ (let l = digit_high x d in ne_eqb x 93 (λ e. omega arith))
    | inr e ↦ (let q = eqb-true x 45 e in ne_eqb x 93 (λ r. omega arith))
  ]

  pub first_of : (w rest : List ℕ) → StartsNumeral w → (x : ℕ) × (xs : List ℕ) × (w ++ rest ≡ x ∷ xs) × (is_byte 93 x ≡ false)
  first_of [] rest s = absurd s
  first_of (x ∷ w) rest s = (x, w ++ rest, refl, no_square x s)

  pub first_alone : (w : List ℕ) → StartsNumeral w → (x : ℕ) × (xs : List ℕ) × (w ≡ x ∷ xs) × (is_byte 93 x ≡ false)
  first_alone [] s = absurd s
  first_alone (x ∷ w) s = (x, w, refl, no_square x s)

  pub number_starts : (i : Low) (v : Closed) → (number (numbers_at i)).Fits v → StartsNumeral ((number (numbers_at i)).text v)
  unfolding number checked
  number_starts i v f = starts (numbers_at i) v f

  pub raw_first : (i : Low) (c : RisingCodes) (h : RisingInner c) (v : RawRising) → ((raw_rising i).make c h).Fits v → (x : ℕ) × (xs : List ℕ) × (((raw_rising i).make c h).text v ≡ x ∷ xs) × (is_byte 93 x ≡ false)
  unfolding sequence both fixed
  raw_first i c h v f = first_of ((number (numbers_at i)).text v.0) (((rest_of v.0).make c h).text v.1) (number_starts i v.0 f.0)

  pub first_long : (i : Low) (c : RisingCodes) (h : RisingInner c) (v : Closed) → ((first_number i).make c h).Fits v → 1 ≤ length (((first_number i).make c h).text v)
  unfolding fixed
  first_long i c h v f = let w = first_of ((number (numbers_at i)).text v) [] (number_starts i v f) in
      let l : length ((number (numbers_at i)).text v) ≡ suc (length w.1) = ap length (sym (append-nil ((number (numbers_at i)).text v)) ∙ w.2) in omega arith

  pub rising_tight : (i : Low) → Tight {T = λ i. List ℕ} some_shape sure_number (rising_plan i)
  rising_tight i = sends_tight {T = λ i. List ℕ} some_shape sure_number rising_to rising_from (raw_rising i) (rising_back i)
      (sequence_tight {T = λ i. List ℕ} some_shape sure_number (first_number i) rest_of (fixed_tight {T = λ i. List ℕ} some_shape sure_number (number (numbers_at i))) (first_long i))

  pub rest_none : (n : ℕ) (d : Dec (next n ≤ top)) (c : RisingCodes) (h : RisingInner c) → ((rest_by false n d).make c h).Fits []
  unfolding rest_by fixed empty
  rest_none n d c h = refl

  pub top_fits : (i : Low) → (number (numbers_at i)).Fits (top, 93)
  unfolding number checked machine number_machine passing_by
  top_fits i = (and_both (nat_le i.0 top) (nat_le top top) (le-leb i.0 top i.1) refl, refl)

  pub top_starts : (i : Low) → StartsNumeral (decimal top ++ 93 ∷ [])
  unfolding number checked machine number_machine
  top_starts i = number_starts i (top, 93) (top_fits i)

  pub rising_shaped : (c : RisingCodes) (h : RisingInner c) (i : Low) → Shaped (some_shape i) (sure_number i) ((rising_plan i).make c h)
  unfolding sends mapped sequence both fixed
  rising_shaped c h i = record {
    form = λ ns f. (((rising_from ns).0.0, (rising_from ns).1, sym f.1), raw_first i c h (rising_from ns) f.0);
    has = ((top_fits i, rest_none top (can_rise top) c h), refl);
  }

  abbrev pub rising_layers : Layers {T = λ i. List ℕ} some_shape sure_number
  rising_layers = record {
    plan = rising_plan;
    tight = rising_tight;
    shaped = rising_shaped;
    text = rising_texts;
    equation = rising_equation;
    sure_shape = λ i. ((top, [], refl), first_alone (decimal top ++ 93 ∷ []) (top_starts i));
  }

  -- numbers of at least i.0, up to `]`
  unfoldable pub some_rising : Low → Code (List ℕ)
  some_rising = coded {T = λ i. List ℕ} some_shape sure_number rising_layers

  pub some_rising_shaped : (i : Low) → Shaped (some_shape i) (sure_number i) (some_rising i)
  unfolding some_rising
  some_rising_shaped i = coded_shaped {T = λ i. List ℕ} some_shape sure_number rising_layers i

  pub some_rising_text : (i : Low) (ns : List ℕ) → (some_rising i).text ns ≡ rising_text ns
  unfolding some_rising
  some_rising_text i ns = coded_text {T = λ i. List ℕ} some_shape sure_number rising_layers i ns

  -- ---- the list behind its `[`: `]` at once, or numbers that rise
  abbrev pub lowest_of_all : Low
  lowest_of_all = (0, omega arith)

  abbrev pub square_end : Code (Unit {0})
  square_end = alone {A = Unit {0}} tt (93 ∷ [])

  pub square_begins : Begins square_end (is_byte 93) true
  unfolding alone words
  square_begins a f = (93, [], refl, refl)

  pub rising_begins : Begins (some_rising lowest_of_all) (is_byte 93) false
  rising_begins ns f = ((some_rising_shaped lowest_of_all).form ns f).1

  abbrev pub raw_list : Code (Unit {0} ⊎ List ℕ)
  raw_list = one (is_byte 93) square_end (some_rising lowest_of_all) square_begins rising_begins

  abbrev pub list_of : Unit {0} ⊎ List ℕ → List ℕ
  list_of (inl u) = []
  list_of (inr ns) = ns

  abbrev pub list_parts : List ℕ → Unit {0} ⊎ List ℕ
  list_parts [] = inl tt
  list_parts (n ∷ ns) = inr (n ∷ ns)

  pub parts_some : (ns : List ℕ) (n : ℕ) (more : List ℕ) → ns ≡ n ∷ more → list_parts ns ≡ inr ns
  parts_some [] n more e = let l : 0 ≡ suc (length more) = ap length e in absurd (omega arith)
  parts_some (m ∷ ms) n more e = refl

  pub list_back : (v : Unit {0} ⊎ List ℕ) → raw_list.Fits v → list_parts (list_of v) ≡ v
  unfolding one
  list_back (inl u) f = refl
  list_back (inr ns) f = let s = (some_rising_shaped lowest_of_all).form ns f in parts_some ns s.0.0 s.0.1 s.0.2

  unfoldable pub rising : Code (List ℕ)
  rising = mapped list_of list_parts raw_list list_back

  pub rising_spelled : (ns : List ℕ) → rising.Fits ns → rising.text ns ≡ listed_text 93 (map decimal ns)
  unfolding rising mapped one alone words
  rising_spelled [] f = refl
  rising_spelled (n ∷ ns) f = some_rising_text lowest_of_all (n ∷ ns)
