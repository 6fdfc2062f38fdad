-- Multisets as the grammar reads them.
use Rattle.std.proofs.Common.{ℕ, ◌⊎◌, ◌≤◌, Bool, true, false, ◌&&◌, ◌||◌, nat_eq, nat_le, List, [], ◌∷◌, ◌++◌, ◌≡◌, ◌≢◌, drop, refl, sym, ap, ◌∙◌, append_assoc, arith}
use mathlib.Core.Logic.{inl, inr}
use Rattle.std.proofs.lemmas.Bool.{eqb-true, eq-eqb, ne_eqb, leb-true}
use Rattle.ae_codes.specs.Codes.{Read, got, stops, wide, Code, words, wide_digits}
use Rattle.ae_codes.specs.Fractions.{lives, passing_by, or_cases}
use Rattle.ae_codes.specs.Machines.{run}
use Rattle.ae_codes.specs.Numbers.{Closed, number, number_step, no_digit, and_two, lies}
use Rattle.ae_codes.specs.Plans.{fixed, inside, sequence, sends, coded_shaped, coded_reads}
use Rattle.ae_codes.specs.Rising as rise
use Rattle.ae_codes.specs.Rising.{Low, RawRising, rising, some_rising, some_rising_shaped, lowest_of_all, top, from_low, low_bound, goes_on, numbers_at, raw_rising, rising_to}
use Rattle.ae_codes.specs.Rising.{rising_from, rising_back, rising_layers, rest_by, rest_of, can_rise, raw_list, list_of, list_parts, list_back, square_end, square_begins, rising_begins}
use Rattle.ae_codes.specs.Rows.{alone, empty}
use Rattle.ae_codes.specs.Listings.{is_byte}
use Rattle.ae_readers.specs.Readers.{after_read, before, end_or, wide_or, FaultIs}
use Rattle.ae_readers.proofs.Combinators.{after_after, mapped_is, one_is, one_none, on_side}
use Rattle.ae_readers.proofs.RowReading.{before_none}
use Rattle.ae_readers.specs.declared.fault.Fault.{Fault}
use Rattle.ae_readers.specs.declared.fault.Fault.TheVariants.{At as FaultAt, WideNumber, Memory}
use Rattle.ae_valuereader.proofs.FormReading.{number_is}
use Rattle.ae_valuereader.proofs.SignReading.{both_then, same_plan}
use Rattle.ae_valuereader.proofs.Spanning.{lives_are, same_digits}
use Rattle.ae_valuereader.specs.Multisets.{rising_span, rising_read, multiset_read}
use Rattle.ae_valuereader.specs.Spans.{goes, may_close, span_digits, span_read}

and_true : (b : Bool) → b ≡ b && true
and_true true = refl
and_true false = refl

-- ---- one number
number_digits : (i : Low (λ n. n)) (r : List ℕ) → run (number_step (numbers_at (λ n. n) i)) r no_digit ≡ span_digits (rising_span i.0) r no_digit
unfolding passing_by
number_digits i r = same_digits (from_low i.0) (lies i.0 top) (lives (from_low i.0) (low_bound i.0)) (goes (rising_span i.0)) (goes_on (λ n. n)) (may_close (rising_span i.0))
    (λ n. refl) (λ n. lives_are (from_low i.0) (low_bound i.0) i.0 top i.1 (λ n. refl) n) (λ n x. ap (λ b. b || (nat_eq x 32 && nat_le n top)) (and_true (nat_eq x 93))) r no_digit

number_at : (i : Low (λ n. n)) (r : List ℕ) → (number (numbers_at (λ n. n) i)).read r ≡ span_read (rising_span i.0) r
number_at i r = number_is (numbers_at (λ n. n) i) r ∙ ap (wide_or (wide_digits r) r) (number_digits i r)

-- ---- one turn
abbrev rest_code : Closed → Code (List ℕ)
rest_code v = (rest_of (λ n. n) v).make (some_rising (λ n. n)) (some_rising_shaped (λ n. n))

abbrev behind : Closed → List ℕ → Read (List ℕ)
behind v q = after_read ((rest_code v).read q) (λ ns rest. got (v.0 ∷ ns) rest)

rising_turn : (i : Low (λ n. n)) (bytes : List ℕ) → (some_rising (λ n. n) i).read bytes ≡ after_read (span_read (rising_span i.0) bytes) behind
unfolding some_rising sends sequence fixed
rising_turn i bytes =
    coded_reads {T = λ i. List ℕ} (rise.some_shape (λ n. n)) (rise.sure_number (λ n. n)) (rising_layers (λ n. n)) i bytes
    ∙ same_plan {T = λ i. List ℕ} (rise.some_shape (λ n. n)) (rise.sure_number (λ n. n)) (rise.rising_plan (λ n. n) i) (some_rising (λ n. n))
    (coded_shaped {T = λ i. List ℕ} (rise.some_shape (λ n. n)) (rise.sure_number (λ n. n)) (rising_layers (λ n. n))) (some_rising_shaped (λ n. n)) bytes
    ∙ mapped_is (rising_to (λ n. n)) (rising_from (λ n. n)) ((raw_rising (λ n. n) i).make (some_rising (λ n. n)) (some_rising_shaped (λ n. n))) (rising_back (λ n. n) i (some_rising (λ n. n)) (some_rising_shaped (λ n. n))) bytes
    ∙ both_then (number (numbers_at (λ n. n) i)) rest_code bytes (λ v rest. got (rising_to (λ n. n) v) rest)
    ∙ ap (λ z. after_read z behind) (number_at i bytes)

rest_on : (n : ℕ) (b : Bool) (d : Dec (n ≤ top)) (q : List ℕ) → b ≡ true → n ≤ top → (l : n ≤ top) × (((rest_by (λ n. n) b n d).make (some_rising (λ n. n)) (some_rising_shaped (λ n. n))).read q ≡ (some_rising (λ n. n) (n, l)).read q)
unfolding rest_by inside
rest_on n true (yes l) q e h = (l, refl)
rest_on n true (no m) q e h = absurd (m h)
rest_on n false d q e h = absurd cc

rest_off : (n : ℕ) (b : Bool) (d : Dec (n ≤ top)) (q : List ℕ) → b ≡ false → ((rest_by (λ n. n) b n d).make (some_rising (λ n. n)) (some_rising_shaped (λ n. n))).read q ≡ got [] q
unfolding rest_by fixed empty
rest_off n true d q e = absurd cc
rest_off n false d q e = refl

before_more : (xs : List ℕ) (x : ℕ) (r : Read (List ℕ)) → before xs (after_read r (λ ys end. got (x ∷ ys) end)) ≡ before (xs ++ x ∷ []) r
before_more xs x (got ys rest) = ap (λ z. got z rest) (sym (append_assoc xs (x ∷ []) ys))
before_more xs x (stops r) = refl
before_more xs x (wide r) = refl

-- a number that a blank closes is at most the greatest
pub closed_within : (low n e : ℕ) → may_close (rising_span low) n e ≡ true → e ≡ 32 → n ≤ top
closed_within low n e h q = elim (or_cases (nat_eq e 93 && true) (nat_eq e 32 && nat_le n top) h) [
  | inl a ↦ (let x = eqb-true e 93 (and_true (nat_eq e 93) ∙ a) in absurd (omega (arith, x, q)))
  | inr b ↦ leb-true n top (and_two (nat_eq e 32) (nat_le n top) b)
]

-- ---- as far as a loop over numbers has come
module _ (text : List ℕ) (from : ℕ) where
  abbrev pub whole : Read (List ℕ)
  whole = rising_read (drop from text)

  abbrev pub RisenSoFar : ℕ → ℕ → List ℕ → Type 0
  RisenSoFar low at ns = (i : Low (λ n. n)) × (i.0 ≡ low) × (whole ≡ before ns ((some_rising (λ n. n) i).read (drop at text)))

  pub risen_begin : (ns : List ℕ) → ns ≡ [] → RisenSoFar 0 from ns
  risen_begin ns e = (lowest_of_all (λ n. n), refl, before_none whole ∙ ap (λ z. before z whole) (sym e))

  module _ (low at : ℕ) (ns : List ℕ) (far : RisenSoFar low at ns) where
    whole_step : whole ≡ before ns (after_read (span_read (rising_span low) (drop at text)) behind)
    whole_step = far.2 ∙ ap (before ns) (rising_turn far.0 (drop at text) ∙ ap (λ n. after_read (span_read (rising_span n) (drop at text)) behind) far.1)

    whole_after : (r : Read Closed) → span_read (rising_span low) (drop at text) ≡ r → whole ≡ before ns (after_read r behind)
    whole_after r e = whole_step ∙ ap (λ r. before ns (after_read r behind)) e

    pub risen_faulty : (f : Fault) → FaultIs text f (span_read (rising_span low) (drop at text)) → FaultIs text f whole
    risen_faulty (FaultAt p) e = whole_after (stops (drop p text)) e
    risen_faulty (WideNumber p) e = whole_after (wide (drop p text)) e
    risen_faulty Memory e = tt

    pub risen_end : (v : Closed) (next : ℕ) (ys : List ℕ) → span_read (rising_span low) (drop at text) ≡ got v (drop next text) → v.1 ≢ 32 → ys ≡ ns ++ v.0 ∷ [] → whole ≡ got ys (drop next text)
    risen_end v next ys e q p =
        whole_after (got v (drop next text)) e
        ∙ ap (λ z. before ns (after_read z (λ ps rest. got (v.0 ∷ ps) rest))) (rest_off v.0 (nat_eq v.1 32) (can_rise (λ n. n) v.0) (drop next text) (ne_eqb v.1 32 q))
        ∙ ap (λ z. got z (drop next text)) (sym p)

    pub risen_on : (v : Closed) (next : ℕ) (ys : List ℕ) → span_read (rising_span low) (drop at text) ≡ got v (drop next text) → v.1 ≡ 32 → may_close (rising_span low) v.0 v.1 ≡ true → ys ≡ ns ++ v.0 ∷ [] → RisenSoFar v.0 next ys
    risen_on v next ys e q c p =
        let on = rest_on v.0 (nat_eq v.1 32) (can_rise (λ n. n) v.0) (drop next text) (eq-eqb v.1 32 q) (closed_within low v.0 v.1 c q) in (
          (v.0, on.0),
          refl,
          whole_after (got v (drop next text)) e
              ∙ ap (λ z. before ns (after_read z (λ ps rest. got (v.0 ∷ ps) rest))) on.1
              ∙ before_more ns v.0 ((some_rising (λ n. n) (v.0, on.0)).read (drop next text))
              ∙ ap (λ z. before z ((some_rising (λ n. n) (v.0, on.0)).read (drop next text))) (sym p),
        )

-- ---- the whole list
end_read : (xs : List ℕ) → (alone {A = Unit {0}} tt (93 ∷ [])).read (93 ∷ xs) ≡ got tt xs
unfolding alone words
end_read xs = (alone {A = Unit {0}} tt (93 ∷ [])).again tt xs refl

abbrev as_list : Unit {0} ⊎ List ℕ → List ℕ → Read (List ℕ)
as_list v rest = got (list_of (λ n. n) v) rest

same_list : (r : Read (List ℕ)) → after_read r (λ ns rest. got ns rest) ≡ r
same_list (got ns rest) = refl
same_list (stops r) = refl
same_list (wide r) = refl

list_by : (b : Bool) (x : ℕ) (xs : List ℕ) → nat_eq x 93 ≡ b → after_read (on_side b ((square_end (λ n. n)).read (x ∷ xs)) (rising_read (x ∷ xs))) as_list ≡ end_or b xs (rising_read (x ∷ xs))
list_by true x xs e = let s = eqb-true x 93 e in
    ap (λ z. after_read (after_read ((alone {A = Unit {0}} tt (93 ∷ [])).read (z ∷ xs)) (λ a rest. got (inl a) rest)) as_list) s
    ∙ ap (λ r. after_read (after_read r (λ a rest. got (inl a) rest)) as_list) (end_read xs)
list_by false x xs e = after_after (rising_read (x ∷ xs)) (λ a rest. got (inr a) rest) as_list ∙ same_list (rising_read (x ∷ xs))

pub multiset_is : (bytes : List ℕ) → (rising (λ n. n)).read bytes ≡ multiset_read bytes
unfolding rising
multiset_is [] =
    mapped_is (list_of (λ n. n)) (list_parts (λ n. n)) (raw_list (λ n. n)) (list_back (λ n. n)) []
    ∙ ap (λ r. after_read r as_list) (one_none (is_byte 93) (square_end (λ n. n)) (some_rising (λ n. n) (lowest_of_all (λ n. n))) (square_begins (λ n. n)) (rising_begins (λ n. n)))
multiset_is (x ∷ xs) =
    mapped_is (list_of (λ n. n)) (list_parts (λ n. n)) (raw_list (λ n. n)) (list_back (λ n. n)) (x ∷ xs)
    ∙ ap (λ r. after_read r as_list) (one_is (is_byte 93) (square_end (λ n. n)) (some_rising (λ n. n) (lowest_of_all (λ n. n))) (square_begins (λ n. n)) (rising_begins (λ n. n)) x xs)
    ∙ list_by (nat_eq x 93) x xs refl
