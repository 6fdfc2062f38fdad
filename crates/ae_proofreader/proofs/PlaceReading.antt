-- Places of axioms as the grammar reads them.
use Rattle.std.proofs.Common.{ℕ, suc, ◌⊎◌, ◌≤◌, Bool, true, false, ◌&&◌, ◌||◌, nat_eq, nat_le, List, [], ◌∷◌, ◌++◌, ◌≡◌, ◌≢◌, drop, refl, sym, ap, ◌∙◌, append_assoc, arith}
use Rattle.std.specs.Prelude.{IfOk, Result, Ok, Err}
use mathlib.Core.Logic.{inl, inr}
use Rattle.std.proofs.Math.Bool.{and-true}
use Rattle.std.proofs.lemmas.Bool.{eqb-true, eq-eqb, ne_eqb, leb-true, le-leb}
use Rattle.ae_codes.specs.Codes.{Read, got, stops, wide, Code, words, wide_digits}
use Rattle.ae_codes.specs.Fractions.{lives, passing_by, or_cases}
use Rattle.ae_codes.specs.Machines.{run}
use Rattle.ae_codes.specs.Numbers.{Closed, number, number_step, no_digit, and_two, lies}
use Rattle.ae_codes.specs.Plans.{fixed, inside, sequence, sends, coded_shaped, coded_reads}
use Rattle.ae_codes.specs.Rising as rise
use Rattle.ae_codes.specs.Rising.{Low, RawRising, rising, some_rising, some_rising_shaped, lowest_of_all, top, from_low, low_bound, goes_on, numbers_at, raw_rising, rising_to}
use Rattle.ae_codes.specs.Rising.{rising_from, rising_back, rising_layers, rest_by, rest_of, can_rise, raw_list, list_of, list_parts, list_back, square_end, square_begins, rising_begins}
use Rattle.ae_codes.specs.Rows.{alone, empty}
use Rattle.ae_codes.specs.Listings.{is_byte}
use Rattle.ae_readers.specs.Readers.{after_read, before, end_or, wide_or, FaultIs}
use Rattle.ae_readers.proofs.Combinators.{after_after, mapped_is, one_is, one_none, on_side}
use Rattle.ae_readers.proofs.RowReading.{before_none}
use Rattle.ae_readers.specs.declared.fault.Fault.{Fault}
use Rattle.ae_readers.specs.declared.fault.Fault.TheVariants.{At as FaultAt, WideNumber, Memory}
use Rattle.ae_valuereader.proofs.FormReading.{number_is}
use Rattle.ae_valuereader.proofs.SignReading.{both_then, same_plan}
use Rattle.ae_valuereader.proofs.Spanning.{both_ways, lives_are, same_digits}
use Rattle.ae_proofreader.specs.Places.{place_span, place_row_read, places_read}
use Rattle.ae_valuereader.specs.Spans.{goes, may_close, span_digits, span_read}

abbrev last_but_one : ℕ
last_but_one = 18446744073709551614

-- a greater number can stand behind each but the greatest
next_within : (n : ℕ) → nat_le (suc n) top ≡ nat_le n last_but_one
next_within n = both_ways (nat_le (suc n) top) (nat_le n last_but_one) (λ h. let l = leb-true (suc n) top h in le-leb n last_but_one (omega (arith, l))) (λ h. let l = leb-true n last_but_one h in le-leb (suc n) top (omega (arith, l)))

-- ---- one number
number_digits : (i : Low suc) (r : List ℕ) → run (number_step (numbers_at suc i)) r no_digit ≡ span_digits (place_span i.0) r no_digit
unfolding passing_by
number_digits i r = same_digits (from_low i.0) (lies i.0 top) (lives (from_low i.0) (low_bound i.0)) (goes (place_span i.0)) (goes_on suc) (may_close (place_span i.0))
    (λ n. refl) (λ n. lives_are (from_low i.0) (low_bound i.0) i.0 top i.1 (λ n. refl) n) (λ n x. (λ i. sym (and-true (nat_eq x 93)) i || (nat_eq x 32 && next_within n i))) r no_digit

number_at : (i : Low suc) (r : List ℕ) → (number (numbers_at suc i)).read r ≡ span_read (place_span i.0) r
number_at i r = number_is (numbers_at suc i) r ∙ ap (wide_or (wide_digits r) r) (number_digits i r)

-- ---- one turn
abbrev rest_code : Closed → Code (List ℕ)
rest_code v = (rest_of suc v).make (some_rising suc) (some_rising_shaped suc)

abbrev behind : Closed → List ℕ → Read (List ℕ)
behind v q = after_read ((rest_code v).read q) (λ ns rest. got (v.0 ∷ ns) rest)

rising_turn : (i : Low suc) (bytes : List ℕ) → (some_rising suc i).read bytes ≡ after_read (span_read (place_span i.0) bytes) behind
unfolding some_rising sends sequence fixed
rising_turn i bytes =
    coded_reads {T = λ i. List ℕ} (rise.some_shape suc) (rise.sure_number suc) (rising_layers suc) i bytes
    ∙ same_plan {T = λ i. List ℕ} (rise.some_shape suc) (rise.sure_number suc) (rise.rising_plan suc i) (some_rising suc)
    (coded_shaped {T = λ i. List ℕ} (rise.some_shape suc) (rise.sure_number suc) (rising_layers suc)) (some_rising_shaped suc) bytes
    ∙ mapped_is (rising_to suc) (rising_from suc) ((raw_rising suc i).make (some_rising suc) (some_rising_shaped suc)) (rising_back suc i (some_rising suc) (some_rising_shaped suc)) bytes
    ∙ both_then (number (numbers_at suc i)) rest_code bytes (λ v rest. got (rising_to suc v) rest)
    ∙ ap (λ z. after_read z behind) (number_at i bytes)

rest_on : (n : ℕ) (b : Bool) (d : Dec (suc n ≤ top)) (q : List ℕ) → b ≡ true → suc n ≤ top
    → (l : suc n ≤ top) × (((rest_by suc b n d).make (some_rising suc) (some_rising_shaped suc)).read q ≡ (some_rising suc (suc n, l)).read q)
unfolding rest_by inside
rest_on n true (yes l) q e h = (l, refl)
rest_on n true (no m) q e h = absurd (m h)
rest_on n false d q e h = absurd cc

rest_off : (n : ℕ) (b : Bool) (d : Dec (suc n ≤ top)) (q : List ℕ) → b ≡ false → ((rest_by suc b n d).make (some_rising suc) (some_rising_shaped suc)).read q ≡ got [] q
unfolding rest_by fixed empty
rest_off n true d q e = absurd cc
rest_off n false d q e = refl

before_more : (xs : List ℕ) (x : ℕ) (r : Read (List ℕ)) → before xs (after_read r (λ ys end. got (x ∷ ys) end)) ≡ before (xs ++ x ∷ []) r
before_more xs x (got ys rest) = ap (λ z. got z rest) (sym (append_assoc xs (x ∷ []) ys))
before_more xs x (stops r) = refl
before_more xs x (wide r) = refl

-- a number that a blank closes isn't the greatest
pub closed_below : (low n e : ℕ) → may_close (place_span low) n e ≡ true → e ≡ 32 → n ≤ last_but_one
closed_below low n e h q = elim (or_cases (nat_eq e 93 && true) (nat_eq e 32 && nat_le n last_but_one) h) [
  | inl a ↦ (let x = eqb-true e 93 (sym (and-true (nat_eq e 93)) ∙ a) in absurd (omega (arith, x, q)))
  | inr b ↦ leb-true n last_but_one (and_two (nat_eq e 32) (nat_le n last_but_one) b)
]

pub below_where : (low : ℕ) (result : Result (Closed × ℕ) Fault) → IfOk result (λ v. may_close (place_span low) v.0.0 v.0.1 ≡ true) → IfOk result (λ v. v.0.1 ≡ 32 → v.0.0 ≤ last_but_one)
below_where low (Ok v) h = closed_below low v.0.0 v.0.1 h
below_where low (Err f) h = h

-- ---- as far as a loop over numbers has come
module _ (text : List ℕ) (from : ℕ) where
  abbrev pub whole : Read (List ℕ)
  whole = place_row_read (drop from text)

  abbrev pub PlacedSoFar : ℕ → ℕ → List ℕ → Type 0
  PlacedSoFar low at ns = (i : Low suc) × (i.0 ≡ low) × (whole ≡ before ns ((some_rising suc i).read (drop at text)))

  pub placed_begin : (ns : List ℕ) → ns ≡ [] → PlacedSoFar 0 from ns
  placed_begin ns e = (lowest_of_all suc, refl, before_none whole ∙ ap (λ z. before z whole) (sym e))

  module _ (low at : ℕ) (ns : List ℕ) (far : PlacedSoFar low at ns) where
    whole_step : whole ≡ before ns (after_read (span_read (place_span low) (drop at text)) behind)
    whole_step = far.2 ∙ ap (before ns) (rising_turn far.0 (drop at text) ∙ ap (λ n. after_read (span_read (place_span n) (drop at text)) behind) far.1)

    whole_after : (r : Read Closed) → span_read (place_span low) (drop at text) ≡ r → whole ≡ before ns (after_read r behind)
    whole_after r e = whole_step ∙ ap (λ r. before ns (after_read r behind)) e

    pub placed_faulty : (f : Fault) → FaultIs text f (span_read (place_span low) (drop at text)) → FaultIs text f whole
    placed_faulty (FaultAt p) e = whole_after (stops (drop p text)) e
    placed_faulty (WideNumber p) e = whole_after (wide (drop p text)) e
    placed_faulty Memory e = tt

    pub placed_end : (v : Closed) (next : ℕ) (ys : List ℕ) → span_read (place_span low) (drop at text) ≡ got v (drop next text) → v.1 ≢ 32 → ys ≡ ns ++ v.0 ∷ [] → whole ≡ got ys (drop next text)
    placed_end v next ys e q p =
        whole_after (got v (drop next text)) e
        ∙ ap (λ z. before ns (after_read z (λ ps rest. got (v.0 ∷ ps) rest))) (rest_off v.0 (nat_eq v.1 32) (can_rise suc v.0) (drop next text) (ne_eqb v.1 32 q))
        ∙ ap (λ z. got z (drop next text)) (sym p)

    pub placed_on : (v : Closed) (next least : ℕ) (ys : List ℕ) → span_read (place_span low) (drop at text) ≡ got v (drop next text) → v.1 ≡ 32 → v.0 ≤ last_but_one
        → suc v.0 ≡ least → ys ≡ ns ++ v.0 ∷ [] → PlacedSoFar least next ys
    placed_on v next least ys e q c s p =
        let on = rest_on v.0 (nat_eq v.1 32) (can_rise suc v.0) (drop next text) (eq-eqb v.1 32 q) (omega (arith, c)) in (
          (suc v.0, on.0),
          s,
          whole_after (got v (drop next text)) e
              ∙ ap (λ z. before ns (after_read z (λ ps rest. got (v.0 ∷ ps) rest))) on.1
              ∙ before_more ns v.0 ((some_rising suc (suc v.0, on.0)).read (drop next text))
              ∙ ap (λ z. before z ((some_rising suc (suc v.0, on.0)).read (drop next text))) (sym p),
        )

-- ---- the whole list
end_read : (xs : List ℕ) → (alone {A = Unit {0}} tt (93 ∷ [])).read (93 ∷ xs) ≡ got tt xs
unfolding alone words
end_read xs = (alone {A = Unit {0}} tt (93 ∷ [])).again tt xs refl

abbrev as_list : Unit {0} ⊎ List ℕ → List ℕ → Read (List ℕ)
as_list v rest = got (list_of suc v) rest

same_list : (r : Read (List ℕ)) → after_read r (λ ns rest. got ns rest) ≡ r
same_list (got ns rest) = refl
same_list (stops r) = refl
same_list (wide r) = refl

list_by : (b : Bool) (x : ℕ) (xs : List ℕ) → nat_eq x 93 ≡ b → after_read (on_side b ((square_end suc).read (x ∷ xs)) (place_row_read (x ∷ xs))) as_list ≡ end_or b xs (place_row_read (x ∷ xs))
list_by true x xs e = let s = eqb-true x 93 e in
    ap (λ z. after_read (after_read ((alone {A = Unit {0}} tt (93 ∷ [])).read (z ∷ xs)) (λ a rest. got (inl a) rest)) as_list) s
    ∙ ap (λ r. after_read (after_read r (λ a rest. got (inl a) rest)) as_list) (end_read xs)
list_by false x xs e = after_after (place_row_read (x ∷ xs)) (λ a rest. got (inr a) rest) as_list ∙ same_list (place_row_read (x ∷ xs))

pub places_are : (bytes : List ℕ) → (rising suc).read bytes ≡ places_read bytes
unfolding rising
places_are [] =
    mapped_is (list_of suc) (list_parts suc) (raw_list suc) (list_back suc) []
    ∙ ap (λ r. after_read r as_list) (one_none (is_byte 93) (square_end suc) (some_rising suc (lowest_of_all suc)) (square_begins suc) (rising_begins suc))
places_are (x ∷ xs) =
    mapped_is (list_of suc) (list_parts suc) (raw_list suc) (list_back suc) (x ∷ xs)
    ∙ ap (λ r. after_read r as_list) (one_is (is_byte 93) (square_end suc) (some_rising suc (lowest_of_all suc)) (square_begins suc) (rising_begins suc) x xs)
    ∙ list_by (nat_eq x 93) x xs refl
