-- The factors of a linear form with their names: `F1 N1 .. Fn Nn` up to the bracket that closes the form. Names rise, no factor is 0, and behind the last
-- name no number above 1 divides the denominator, the constant and all factors. So the bracket may stand only where that is true; a blank only where a name
-- is left; and the greatest name only as the last one.
use Rattle.std.specs.Prelude.{ℕ, suc, ℤ, pos, ◌%◌, ◌≤◌, ◌<◌, ◌⊎◌, ◌&&◌, ◌||◌, not, Bool, true, false, IsTrue, nat_eq, nat_le, nat_lt, List, [], ◌∷◌, ◌++◌, ◌≡◌, length, map, decimal, unsigned_abs}
use lib.IntN.{negsuc}
use mathlib.Core.Path.{refl, sym, ap, ◌∙◌, subst}
use mathlib.Core.Logic.{inl, inr}
use mathlib.Core.List.{append_assoc}
use native.Mathlib.Omega.{arith}
use Rattle.std.proofs.Math.Nat.{mod-eq_of_lt}
use Rattle.std.proofs.lemmas.Bool.{ne_eqb, eqb-true, leb-true, le-leb, ltb-true, lt-ltb}
use Rattle.ae_codes.specs.Codes.{Code, is_digit, limit, StartsNumeral, both, mapped}
use Rattle.ae_codes.specs.Machines.{machine, checked}
use Rattle.ae_codes.specs.Numbers.{Closed, Numbers, number, number_machine, lies, not_true, and_one, and_two, and_both, or_one, digit_low}
use Rattle.ae_codes.specs.Fractions.{some_below, below_is, or_cases, or_two, passing_by}
use Rattle.ae_codes.specs.Integers.{IntegerEnd, integer_text}
use Rattle.ae_codes.specs.Nested.{Shaped}
use Rattle.ae_codes.specs.Rows.{empty}
use Rattle.ae_codes.specs.Rising.{top, from_low, low_bound, can_rise}
use Rattle.ae_codes.specs.Plans.{Inner, Plan, Tight, Layers, fixed, fixed_tight, inside, sequence, sequence_tight, sends, sends_tight, coded, coded_shaped, coded_text, coded_fits, fits_coded}
use Rattle.ae_num.specs.Forms.{divides_each}
use Rattle.ae_num.specs.declared.forms.Part.{Part}
use Rattle.ae_valuetext.specs.Wholes.{integer, integer_spelled, integer_passes, passing_fits, integer_starts}

-- ---- no number above 1 divides the denominator and each of the others
abbrev pub shared : ℕ → List ℕ → ℕ → Bool
shared den ns c = nat_lt 1 c && divides_each c (den ∷ ns)

abbrev pub is_lowest : ℕ → List ℕ → Bool
is_lowest den ns = not (some_below (suc den) (shared den ns))

pub none_so : (b : Bool) → b ≡ false → IsTrue (not b)
none_so true e = absurd cc
none_so false e = refl

pub last_divided : (c : ℕ) (ns : List ℕ) (n : ℕ) → IsTrue (divides_each c (ns ++ n ∷ [])) → n % c ≡ 0
last_divided c [] n h = eqb-true (n % c) 0 (and_one (nat_eq (n % c) 0) true h)
last_divided c (m ∷ ns) n h = last_divided c ns n (and_two (nat_eq (m % c) 0) (divides_each c (ns ++ n ∷ [])) h)

-- 1 among them is enough
pub one_is_lowest : (den : ℕ) (ns : List ℕ) → IsTrue (is_lowest den (ns ++ 1 ∷ []))
one_is_lowest den ns = none_so (some_below (suc den) (shared den (ns ++ 1 ∷ []))) (not_true (some_below (suc den) (shared den (ns ++ 1 ∷ []))) (λ h.
    let r = below_is (suc den) (shared den (ns ++ 1 ∷ [])) h in
    let big : 1 < r.0 = ltb-true 1 r.0 (and_one (nat_lt 1 r.0) (divides_each r.0 (den ∷ ns ++ 1 ∷ [])) r.2) in
    let zero_left : 1 % r.0 ≡ 0 = last_divided r.0 (den ∷ ns) 1 (and_two (nat_lt 1 r.0) (divides_each r.0 (den ∷ ns ++ 1 ∷ [])) r.2) in
    let one_left : 1 % r.0 ≡ 1 = mod-eq_of_lt big in
    omega (arith, zero_left, one_left)))

-- ---- where one factor and its name may stand
-- the numbers that stand so far behind the denominator, without their signs, and the least name that may follow
pub record At : Type 0 where
  pub seen : List ℕ
  pub low : ℕ
  pub room : low ≤ top

-- a blank closes it
abbrev pub is_blank : ℕ → ℕ → Bool
is_blank n x = nat_eq x 32

pub blank_apart : (n x : ℕ) → is_digit x ≡ true → is_blank n x ≡ false
blank_apart n x d = let l = digit_low x d in ne_eqb x 32 (λ e. omega arith)

-- names from low on that rise, up to the greatest, and factors that aren't 0, within the limits
abbrev pub Rise : ℕ → List Part → Type 0
Rise low [] = Unit {0}
Rise low (p ∷ ps) = (low ≤ p.key) × (p.key ≤ top) × (1 ≤ unsigned_abs p.factor) × (unsigned_abs p.factor ≤ limit) × Rise (suc p.key) ps

abbrev pub factor_sizes : List Part → List ℕ
factor_sizes ps = map (λ p. unsigned_abs p.factor) ps

-- what closes a name: a blank where more follow
abbrev pub close_by : List Part → ℕ
close_by [] = 41
close_by (p ∷ ps) = 32

-- the texts of factors and names, up to the bracket
abbrev pub joined_parts : List Part → List ℕ
joined_parts [] = []
joined_parts (p ∷ ps) = (integer_text p.factor ++ 32 ∷ []) ++ ((decimal p.key ++ close_by ps ∷ []) ++ joined_parts ps)

module _ (den : ℕ) where
  -- before the greatest name a factor must leave no common divisor
  abbrev pub may_be_factor : At → ℕ → Bool
  may_be_factor i n = lies 1 limit n && (nat_lt i.low top || is_lowest den (i.seen ++ n ∷ []))

  pub factor_bound : (i : At) (n : ℕ) → IsTrue (may_be_factor i n) → n ≤ limit
  factor_bound i n h = leb-true n limit (and_two (nat_le 1 n) (nat_le n limit) (and_one (lies 1 limit n) (nat_lt i.low top || is_lowest den (i.seen ++ n ∷ [])) h))

  pub one_may : (i : At) → IsTrue (may_be_factor i 1)
  one_may i = and_both (lies 1 limit 1) (nat_lt i.low top || is_lowest den (i.seen ++ 1 ∷ [])) refl (or_two (nat_lt i.low top) (is_lowest den (i.seen ++ 1 ∷ [])) (one_is_lowest den i.seen))

  abbrev pub factors_at : At → Numbers
  factors_at i = passing_by (may_be_factor i) (factor_bound i) is_blank blank_apart (1, one_may i) (λ n g. (32, refl))

  pub factor_positive : (i : At) (n : ℕ) → IsTrue ((factors_at i).good n) → 1 ≤ n
  unfolding passing_by
  factor_positive i n h = leb-true 1 n (and_one (nat_le 1 n) (nat_le n limit) (and_one (lies 1 limit n) (nat_lt i.low top || is_lowest den (i.seen ++ n ∷ [])) h))

  abbrev pub factor_at : (i : At) → Code IntegerEnd
  factor_at i = integer (factors_at i) (factors_at i) (factor_positive i)

  -- ---- what has been seen behind a factor; a factor that may not stand there counts as 1
  abbrev pub seen_by : Bool → List ℕ → List ℕ
  seen_by true ns = ns
  seen_by false ns = 1 ∷ []

  abbrev pub seen_after : At → ℕ → List ℕ
  seen_after i n = seen_by (nat_lt i.low top || is_lowest den (i.seen ++ n ∷ [])) (i.seen ++ n ∷ [])

  pub some_way : (i : At) (n : ℕ) → IsTrue (nat_lt i.low top || is_lowest den (seen_after i n))
  some_way i n = go (nat_lt i.low top || is_lowest den (i.seen ++ n ∷ [])) refl
    where
      go : (b : Bool) → (nat_lt i.low top || is_lowest den (i.seen ++ n ∷ [])) ≡ b → IsTrue (nat_lt i.low top || is_lowest den (seen_by b (i.seen ++ n ∷ [])))
      go true e = e
      go false e = or_two (nat_lt i.low top) (is_lowest den (1 ∷ [])) (one_is_lowest den [])

  pub seen_is : (i : At) (n : ℕ) → IsTrue (may_be_factor i n) → seen_after i n ≡ i.seen ++ n ∷ []
  seen_is i n h = ap (λ b. seen_by b (i.seen ++ n ∷ [])) (and_two (lies 1 limit n) (nat_lt i.low top || is_lowest den (i.seen ++ n ∷ [])) h)

  -- ---- names
  abbrev pub may_be_name : ℕ → List ℕ → ℕ → Bool
  may_be_name low ns n = from_low low n && (nat_lt n top || is_lowest den ns)

  abbrev pub name_ends : List ℕ → ℕ → ℕ → Bool
  name_ends ns n x = (nat_eq x 41 && is_lowest den ns) || (nat_eq x 32 && nat_lt n top)

  pub name_apart : (ns : List ℕ) (n x : ℕ) → is_digit x ≡ true → name_ends ns n x ≡ false
  name_apart ns n x d = go (nat_eq x 41) (nat_eq x 32) (let l = digit_low x d in ne_eqb x 41 (λ e. omega arith)) (let l = digit_low x d in ne_eqb x 32 (λ e. omega arith))
    where
      go : (a b : Bool) → a ≡ false → b ≡ false → (a && is_lowest den ns) || (b && nat_lt n top) ≡ false
      go true b p q = absurd cc
      go false true p q = absurd cc
      go false false p q = refl

  pub name_bound : (low : ℕ) (ns : List ℕ) (n : ℕ) → IsTrue (may_be_name low ns n) → n ≤ limit
  name_bound low ns n h = low_bound low n (and_one (from_low low n) (nat_lt n top || is_lowest den ns) h)

  pub name_some : (i : At) (k : ℕ) → (n : ℕ) × IsTrue (may_be_name i.low (seen_after i k) n)
  name_some i k = (i.low, and_both (from_low i.low i.low) (nat_lt i.low top || is_lowest den (seen_after i k)) (and_both (nat_le i.low i.low) (nat_le i.low top) (le-leb i.low i.low (omega arith)) (le-leb i.low top i.room)) (some_way i k))

  pub name_end : (low : ℕ) (ns : List ℕ) (n : ℕ) → IsTrue (may_be_name low ns n) → (x : ℕ) × IsTrue (name_ends ns n x)
  name_end low ns n h = elim (or_cases (nat_lt n top) (is_lowest den ns) (and_two (from_low low n) (nat_lt n top || is_lowest den ns) h)) [
    | inl l ↦ (32, or_two (nat_eq 32 41 && is_lowest den ns) (nat_eq 32 32 && nat_lt n top) l)
    | inr o ↦ (41, or_one (nat_eq 41 41 && is_lowest den ns) (nat_eq 41 32 && nat_lt n top) o)
  ]

  abbrev pub names_at : At → ℕ → Numbers
  names_at i k = passing_by (may_be_name i.low (seen_after i k)) (name_bound i.low (seen_after i k)) (name_ends (seen_after i k)) (name_apart (seen_after i k)) (name_some i k) (name_end i.low (seen_after i k))

  -- ---- a factor, its name, and more of them behind a blank
  abbrev pub parts_shape : At → List Part → List ℕ → Type 0
  parts_shape i ps w = (p : Part) × (more : List Part) × (ps ≡ p ∷ more)

  abbrev pub sure_parts : At → List Part
  sure_parts i = record { key = top; factor = pos 1 } ∷ []

  abbrev pub PartsPlan : Type 0 → Type 1
  PartsPlan = Plan {T = λ i. List Part} parts_shape sure_parts

  abbrev pub PartsCodes : Type 1
  PartsCodes = (i : At) → Code (List Part)

  abbrev pub PartsInner : PartsCodes → Type 0
  PartsInner = Inner {T = λ i. List Part} parts_shape sure_parts

  unfoldable pub rest_by : Bool → List ℕ → (n : ℕ) → Dec (suc n ≤ top) → PartsPlan (List Part)
  rest_by true ns n (yes l) = inside {T = λ i. List Part} parts_shape sure_parts (record { seen = ns; low = suc n; room = l })
  rest_by true ns n (no m) = fixed {T = λ i. List Part} parts_shape sure_parts (empty [])
  rest_by false ns n d = fixed {T = λ i. List Part} parts_shape sure_parts (empty [])

  abbrev pub rest_of : List ℕ → Closed → PartsPlan (List Part)
  rest_of ns v = rest_by (nat_eq v.1 32) ns v.0 (can_rise suc v.0)

  abbrev pub Named : Type 0
  Named = (v : Closed) × List Part

  abbrev pub RawParts : Type 0
  RawParts = (f : IntegerEnd) × Named

  abbrev pub named_plan : (i : At) (f : IntegerEnd) → PartsPlan Named
  named_plan i f = sequence {T = λ i. List Part} parts_shape sure_parts (fixed {T = λ i. List Part} parts_shape sure_parts (number (names_at i (unsigned_abs f.0)))) (rest_of (seen_after i (unsigned_abs f.0)))

  abbrev pub raw_parts : At → PartsPlan RawParts
  raw_parts i = sequence {T = λ i. List Part} parts_shape sure_parts (fixed {T = λ i. List Part} parts_shape sure_parts (factor_at i)) (named_plan i)

  abbrev pub parts_to : RawParts → List Part
  parts_to v = record { key = v.1.0.0; factor = v.0.0 } ∷ v.1.1

  abbrev pub parts_from : List Part → RawParts
  parts_from [] = ((pos 0, 32), ((0, 41), []))
  parts_from (p ∷ ps) = ((p.factor, 32), ((p.key, close_by ps), ps))

  pub ends_so : (c : PartsCodes) (h : PartsInner c) (b : Bool) (ns : List ℕ) (n e : ℕ) (d : Dec (suc n ≤ top)) (ps : List Part) → nat_eq e 32 ≡ b → IsTrue (name_ends ns n e) → ((rest_by b ns n d).make c h).Fits ps → e ≡ close_by ps
  unfolding rest_by inside fixed empty
  ends_so c h true ns n e (yes l) ps q g f = eqb-true e 32 q ∙ sym (ap close_by (((h (record { seen = ns; low = suc n; room = l })).form ps f).2))
  ends_so c h true ns n e (no m) ps q g f = absurd (elim (or_cases (nat_eq e 41 && is_lowest den ns) (nat_eq e 32 && nat_lt n top) g) [
    | inl a ↦ (let x = eqb-true e 41 (and_one (nat_eq e 41) (is_lowest den ns) a) in let y = eqb-true e 32 q in omega arith)
    | inr b ↦ m (ltb-true n top (and_two (nat_eq e 32) (nat_lt n top) b))
  ])
  ends_so c h false ns n e d ps q g f = elim (or_cases (nat_eq e 41 && is_lowest den ns) (nat_eq e 32 && nat_lt n top) g) [
    | inl a ↦ eqb-true e 41 (and_one (nat_eq e 41) (is_lowest den ns) a) ∙ sym (ap close_by f)
    | inr b ↦ absurd (let y : nat_eq e 32 ≡ true = and_one (nat_eq e 32) (nat_lt n top) b in cc)
  ]

  pub name_tests : (i : At) (k : ℕ) (v : Closed) → (number (names_at i k)).Fits v → IsTrue (may_be_name i.low (seen_after i k) v.0) × IsTrue (name_ends (seen_after i k) v.0 v.1)
  unfolding number checked machine number_machine passing_by
  name_tests i k v f = f

  pub tested_name : (i : At) (k n e : ℕ) → IsTrue (may_be_name i.low (seen_after i k) n) → IsTrue (name_ends (seen_after i k) n e) → (number (names_at i k)).Fits (n, e)
  unfolding number checked machine number_machine passing_by
  tested_name i k n e g h = (g, h)

  pub factor_tests : (i : At) (z : ℤ) (e : ℕ) → (factor_at i).Fits (z, e) → IsTrue (may_be_factor i (unsigned_abs z)) × (e ≡ 32)
  unfolding passing_by
  factor_tests i (pos n) e f = let t = integer_passes (factors_at i) (factors_at i) (factor_positive i) (pos n) e f in (t.0, eqb-true e 32 t.1)
  factor_tests i (negsuc n) e f = let t = integer_passes (factors_at i) (factors_at i) (factor_positive i) (negsuc n) e f in (t.0, eqb-true e 32 t.1)

  pub tested_factor : (i : At) (z : ℤ) → IsTrue (may_be_factor i (unsigned_abs z)) → (factor_at i).Fits (z, 32)
  unfolding passing_by
  tested_factor i (pos n) g = passing_fits (factors_at i) (factors_at i) (factor_positive i) (pos n) 32 (g, refl)
  tested_factor i (negsuc n) g = passing_fits (factors_at i) (factors_at i) (factor_positive i) (negsuc n) 32 (g, refl)

  pub parts_back : (i : At) (c : PartsCodes) (h : PartsInner c) (v : RawParts) → ((raw_parts i).make c h).Fits v → parts_from (parts_to v) ≡ v
  unfolding sequence both fixed
  parts_back i c h ((z, e), (v, ps)) f =
      let ends = (factor_tests i z e f.0).1 in
      let closes = ends_so c h (nat_eq v.1 32) (seen_after i (unsigned_abs z)) v.0 v.1 (can_rise suc v.0) ps refl ((name_tests i (unsigned_abs z) v f.1.0).1) f.1.1 in
      λ j. ((z, sym ends j), ((v.0, sym closes j), ps))

  abbrev pub parts_plan : At → PartsPlan (List Part)
  parts_plan i = sends {T = λ i. List Part} parts_shape sure_parts parts_to parts_from (raw_parts i) (parts_back i)

  -- ---- the text
  abbrev pub parts_texts : At → List Part → List ℕ
  parts_texts i = joined_parts

  pub rest_spelled : (ns : List ℕ) (n : ℕ) (d : Dec (suc n ≤ top)) (ps : List Part) → IsTrue (nat_lt n top) → (rest_by true ns n d).spell parts_texts ps ≡ joined_parts ps
  unfolding rest_by inside fixed empty
  rest_spelled ns n (yes l) ps g = refl
  rest_spelled ns n (no m) ps g = absurd (m (ltb-true n top g))

  pub last_spelled : (ns : List ℕ) (n : ℕ) (d : Dec (suc n ≤ top)) → (rest_by false ns n d).spell parts_texts [] ≡ []
  unfolding rest_by fixed empty
  last_spelled ns n d = refl

  pub name_spelled : (i : At) (k n e : ℕ) → (number (names_at i k)).text (n, e) ≡ decimal n ++ e ∷ []
  unfolding number checked machine number_machine
  name_spelled i k n e = refl

  pub more_stand : (ns : List ℕ) (n : ℕ) → IsTrue (name_ends ns n 32) → IsTrue (nat_lt n top)
  more_stand ns n g = elim (or_cases (nat_eq 32 41 && is_lowest den ns) (nat_eq 32 32 && nat_lt n top) g) [ inl a ↦ absurd cc | inr b ↦ b ]

  pub named_spelled : (i : At) (z : ℤ) (c : PartsCodes) (h : PartsInner c) (n : ℕ) (ps : List Part) → ((named_plan i (z, 32)).make c h).Fits ((n, close_by ps), ps)
      → (named_plan i (z, 32)).spell parts_texts ((n, close_by ps), ps) ≡ (decimal n ++ close_by ps ∷ []) ++ joined_parts ps
  unfolding sequence both fixed
  named_spelled i z c h n [] f =
      ap (λ w. w ++ (rest_of (seen_after i (unsigned_abs z)) (n, 41)).spell parts_texts []) (name_spelled i (unsigned_abs z) n 41)
      ∙ ap (λ w. (decimal n ++ 41 ∷ []) ++ w) (last_spelled (seen_after i (unsigned_abs z)) n (can_rise suc n))
  named_spelled i z c h n (p ∷ ps) f =
      ap (λ w. w ++ (rest_of (seen_after i (unsigned_abs z)) (n, 32)).spell parts_texts (p ∷ ps)) (name_spelled i (unsigned_abs z) n 32)
      ∙ ap (λ w. (decimal n ++ 32 ∷ []) ++ w) (rest_spelled (seen_after i (unsigned_abs z)) n (can_rise suc n) (p ∷ ps) (more_stand (seen_after i (unsigned_abs z)) n ((name_tests i (unsigned_abs z) (n, 32) f.0).1)))

  raw_spelled : (i : At) (c : PartsCodes) (h : PartsInner c) (ps : List Part) → parts_to (parts_from ps) ≡ ps → ((raw_parts i).make c h).Fits (parts_from ps) → (raw_parts i).spell parts_texts (parts_from ps) ≡ joined_parts ps
  unfolding sequence both fixed
  raw_spelled i c h [] q f = let l : suc 0 ≡ 0 = ap length q in absurd (omega arith)
  raw_spelled i c h (p ∷ ps) q f =
      ap (λ w. w ++ (named_plan i (p.factor, 32)).spell parts_texts ((p.key, close_by ps), ps)) (integer_spelled (factors_at i) (factors_at i) (factor_positive i) (p.factor, 32))
      ∙ ap (λ w. (integer_text p.factor ++ 32 ∷ []) ++ w) (named_spelled i p.factor c h p.key ps f.1)

  pub parts_equation : (c : PartsCodes) (h : PartsInner c) (i : At) (ps : List Part) → ((parts_plan i).make c h).Fits ps → (parts_plan i).spell parts_texts ps ≡ joined_parts ps
  unfolding sends mapped
  parts_equation c h i ps f = raw_spelled i c h ps f.1 f.0

  -- ---- the recursion
  long_start : (w : List ℕ) → StartsNumeral w → 1 ≤ length w
  long_start [] s = absurd s
  long_start (x ∷ w) s = omega arith

  pub factor_long : (i : At) (c : PartsCodes) (h : PartsInner c) (f : IntegerEnd) → ((fixed {T = λ i. List Part} parts_shape sure_parts (factor_at i)).make c h).Fits f → 1 ≤ length (((fixed {T = λ i. List Part} parts_shape sure_parts (factor_at i)).make c h).text f)
  unfolding fixed
  factor_long i c h f g = long_start ((factor_at i).text f) (integer_starts (factors_at i) (factors_at i) (factor_positive i) f g)

  pub parts_tight : (i : At) → Tight {T = λ i. List Part} parts_shape sure_parts (parts_plan i)
  parts_tight i = sends_tight {T = λ i. List Part} parts_shape sure_parts parts_to parts_from (raw_parts i) (parts_back i)
      (sequence_tight {T = λ i. List Part} parts_shape sure_parts (fixed {T = λ i. List Part} parts_shape sure_parts (factor_at i)) (named_plan i) (fixed_tight {T = λ i. List Part} parts_shape sure_parts (factor_at i)) (factor_long i))

  pub rest_none : (ns : List ℕ) (n : ℕ) (d : Dec (suc n ≤ top)) (c : PartsCodes) (h : PartsInner c) → ((rest_by false ns n d).make c h).Fits []
  unfolding rest_by fixed empty
  rest_none ns n d c h = refl

  top_named : (i : At) → (number (names_at i 1)).Fits (top, 41)
  top_named i =
      let one = subst (λ ns. IsTrue (is_lowest den ns)) (sym (seen_is i 1 (one_may i))) (one_is_lowest den i.seen) in
      tested_name i 1 top 41
      (and_both (from_low i.low top) (nat_lt top top || is_lowest den (seen_after i 1)) (and_both (nat_le i.low top) (nat_le top top) (le-leb i.low top i.room) refl) (or_two (nat_lt top top) (is_lowest den (seen_after i 1)) one))
      (or_one (nat_eq 41 41 && is_lowest den (seen_after i 1)) (nat_eq 41 32 && nat_lt top top) one)

  pub parts_shaped : (c : PartsCodes) (h : PartsInner c) (i : At) → Shaped (parts_shape i) (sure_parts i) ((parts_plan i).make c h)
  unfolding sends mapped sequence both fixed
  parts_shaped c h i = record {
    form = λ ps f. (record { key = (parts_from ps).1.0.0; factor = (parts_from ps).0.0 }, (parts_from ps).1.1, sym f.1);
    has = ((tested_factor i (pos 1) (one_may i), (top_named i, rest_none (seen_after i 1) top (can_rise suc top) c h)), refl);
  }

  abbrev pub parts_layers : Layers {T = λ i. List Part} parts_shape sure_parts
  parts_layers = record {
    plan = parts_plan;
    tight = parts_tight;
    shaped = parts_shaped;
    text = parts_texts;
    equation = parts_equation;
    sure_shape = λ i. (record { key = top; factor = pos 1 }, [], refl);
  }

  -- one or more, up to the bracket
  unfoldable pub some_parts : At → Code (List Part)
  some_parts = coded {T = λ i. List Part} parts_shape sure_parts parts_layers

  pub some_parts_shaped : (i : At) → Shaped (parts_shape i) (sure_parts i) (some_parts i)
  unfolding some_parts
  some_parts_shaped i = coded_shaped {T = λ i. List Part} parts_shape sure_parts parts_layers i

  pub some_parts_text : (i : At) (ps : List Part) → (some_parts i).text ps ≡ joined_parts ps
  unfolding some_parts
  some_parts_text i ps = coded_text {T = λ i. List Part} parts_shape sure_parts parts_layers i ps

  -- ---- which parts have a text: those that rise, where no number above 1 divides all
  between : (n : ℕ) → 1 ≤ n → n ≤ limit → IsTrue (lies 1 limit n)
  between n l h = and_both (nat_le 1 n) (nat_le n limit) (le-leb 1 n l) (le-leb n limit h)

  factor_may : (i : At) (n : ℕ) → 1 ≤ n → n ≤ limit → (i.low < top) ⊎ IsTrue (is_lowest den (i.seen ++ n ∷ [])) → IsTrue (may_be_factor i n)
  factor_may i n l h (inl r) = and_both (lies 1 limit n) (nat_lt i.low top || is_lowest den (i.seen ++ n ∷ [])) (between n l h) (or_one (nat_lt i.low top) (is_lowest den (i.seen ++ n ∷ [])) (lt-ltb i.low top r))
  factor_may i n l h (inr o) = and_both (lies 1 limit n) (nat_lt i.low top || is_lowest den (i.seen ++ n ∷ [])) (between n l h) (or_two (nat_lt i.low top) (is_lowest den (i.seen ++ n ∷ [])) o)

  from_so : (low n : ℕ) → low ≤ n → n ≤ top → IsTrue (from_low low n)
  from_so low n l h = and_both (nat_le low n) (nat_le n top) (le-leb low n l) (le-leb n top h)

  -- the last factor and its name
  last_fits : (i : At) (p : Part) → Rise i.low (p ∷ []) → IsTrue (is_lowest den (i.seen ++ unsigned_abs p.factor ∷ [])) → ((raw_parts i).make some_parts (some_parts_shaped)).Fits (parts_from (p ∷ []))
  unfolding sequence both fixed
  last_fits i p r o =
      let may = factor_may i (unsigned_abs p.factor) r.2 r.3 (inr o) in
      let o' = subst (λ ns. IsTrue (is_lowest den ns)) (sym (seen_is i (unsigned_abs p.factor) may)) o in
      let ns = seen_after i (unsigned_abs p.factor) in (
        tested_factor i p.factor may,
        (
          tested_name i (unsigned_abs p.factor) p.key 41
              (and_both (from_low i.low p.key) (nat_lt p.key top || is_lowest den ns) (from_so i.low p.key r.0 r.1) (or_two (nat_lt p.key top) (is_lowest den ns) o'))
              (or_one (nat_eq 41 41 && is_lowest den ns) (nat_eq 41 32 && nat_lt p.key top) o'),
          rest_none ns p.key (can_rise suc p.key) some_parts some_parts_shaped,
        ),
      )

  rest_fits : (ns : List ℕ) (n : ℕ) (d : Dec (suc n ≤ top)) (ps : List Part) → n < top → ((l : suc n ≤ top) → (some_parts (record { seen = ns; low = suc n; room = l })).Fits ps) → ((rest_by true ns n d).make some_parts some_parts_shaped).Fits ps
  unfolding rest_by inside
  rest_fits ns n (yes l) ps h f = f l
  rest_fits ns n (no m) ps h f = absurd (m h)

  more_fits : (i : At) (p q : Part) (ps : List Part) → Rise i.low (p ∷ q ∷ ps)
      → ((l : suc p.key ≤ top) → (some_parts (record { seen = i.seen ++ unsigned_abs p.factor ∷ []; low = suc p.key; room = l })).Fits (q ∷ ps))
      → ((raw_parts i).make some_parts some_parts_shaped).Fits (parts_from (p ∷ q ∷ ps))
  unfolding sequence both fixed
  more_fits i p q ps r f =
      let under : p.key < top = (let a = r.4.0 in let b = r.4.1 in omega arith) in
      let under_low : i.low < top = (let a = r.0 in omega arith) in
      let may = factor_may i (unsigned_abs p.factor) r.2 r.3 (inl under_low) in
      let ns = seen_after i (unsigned_abs p.factor) in (
        tested_factor i p.factor may,
        (
          tested_name i (unsigned_abs p.factor) p.key 32
              (and_both (from_low i.low p.key) (nat_lt p.key top || is_lowest den ns) (from_so i.low p.key r.0 r.1) (or_one (nat_lt p.key top) (is_lowest den ns) (lt-ltb p.key top under)))
              (or_two (nat_eq 32 41 && is_lowest den ns) (nat_eq 32 32 && nat_lt p.key top) (lt-ltb p.key top under)),
          rest_fits ns p.key (can_rise suc p.key) (q ∷ ps) under
              (subst (λ ms. (l : suc p.key ≤ top) → (some_parts (record { seen = ms; low = suc p.key; room = l })).Fits (q ∷ ps)) (sym (seen_is i (unsigned_abs p.factor) may)) f),
        ),
      )

  made_fits : (i : At) (p : Part) (ps : List Part) → ((raw_parts i).make some_parts some_parts_shaped).Fits (parts_from (p ∷ ps)) → (some_parts i).Fits (p ∷ ps)
  unfolding some_parts some_parts_shaped sends mapped
  made_fits i p ps f = coded_fits {T = λ i. List Part} parts_shape sure_parts parts_layers i (p ∷ ps) (f, refl)

  pub parts_fit : (i : At) (p : Part) (ps : List Part) → Rise i.low (p ∷ ps) → IsTrue (is_lowest den (i.seen ++ factor_sizes (p ∷ ps))) → (some_parts i).Fits (p ∷ ps)
  parts_fit i p [] r o = made_fits i p [] (last_fits i p r o)
  parts_fit i p (q ∷ ps) r o = made_fits i p (q ∷ ps) (more_fits i p q ps r (λ l.
      parts_fit (record { seen = i.seen ++ unsigned_abs p.factor ∷ []; low = suc p.key; room = l }) q ps r.4
      (subst (λ ns. IsTrue (is_lowest den ns)) (sym (append_assoc i.seen (unsigned_abs p.factor ∷ []) (factor_sizes (q ∷ ps)))) o)))

  -- and they alone
  made_parts : (i : At) (ps : List Part) → (some_parts i).Fits ps → ((raw_parts i).make some_parts some_parts_shaped).Fits (parts_from ps)
  unfolding some_parts some_parts_shaped sends mapped
  made_parts i ps f = (fits_coded {T = λ i. List Part} parts_shape sure_parts parts_layers i ps f).0

  abbrev pub Stand : At → List Part → Type 0
  Stand i ps = Rise i.low ps × IsTrue (is_lowest den (i.seen ++ factor_sizes ps))

  factor_within : (i : At) (n : ℕ) → IsTrue (may_be_factor i n) → (1 ≤ n) × (n ≤ limit)
  factor_within i n h =
      let l = and_one (lies 1 limit n) (nat_lt i.low top || is_lowest den (i.seen ++ n ∷ [])) h in
      (leb-true 1 n (and_one (nat_le 1 n) (nat_le n limit) l), leb-true n limit (and_two (nat_le 1 n) (nat_le n limit) l))

  name_within : (low : ℕ) (ns : List ℕ) (n : ℕ) → IsTrue (may_be_name low ns n) → (low ≤ n) × (n ≤ top)
  name_within low ns n h =
      let l = and_one (from_low low n) (nat_lt n top || is_lowest den ns) h in
      (leb-true low n (and_one (nat_le low n) (nat_le n top) l), leb-true n top (and_two (nat_le low n) (nat_le n top) l))

  bracket_lowest : (ns : List ℕ) (n : ℕ) → IsTrue (name_ends ns n 41) → IsTrue (is_lowest den ns)
  bracket_lowest ns n g = elim (or_cases (nat_eq 41 41 && is_lowest den ns) (nat_eq 41 32 && nat_lt n top) g) [ inl a ↦ a | inr b ↦ absurd cc ]

  one_stands : (i : At) (p : Part) → ((raw_parts i).make some_parts some_parts_shaped).Fits (parts_from (p ∷ [])) → Stand i (p ∷ [])
  unfolding sequence both fixed
  one_stands i p f =
      let may = (factor_tests i p.factor 32 f.0).0 in
      let size = factor_within i (unsigned_abs p.factor) may in
      let named = name_tests i (unsigned_abs p.factor) (p.key, 41) f.1.0 in
      let place = name_within i.low (seen_after i (unsigned_abs p.factor)) p.key named.0 in (
        (place.0, place.1, size.0, size.1, tt),
        subst (λ ns. IsTrue (is_lowest den ns)) (seen_is i (unsigned_abs p.factor) may) (bracket_lowest (seen_after i (unsigned_abs p.factor)) p.key named.1),
      )

  rest_inner : (ns : List ℕ) (n : ℕ) (d : Dec (suc n ≤ top)) (q : Part) (qs : List Part) → ((rest_by true ns n d).make some_parts some_parts_shaped).Fits (q ∷ qs)
      → (l : suc n ≤ top) × (some_parts (record { seen = ns; low = suc n; room = l })).Fits (q ∷ qs)
  unfolding rest_by inside fixed empty
  rest_inner ns n (yes l) q qs f = (l, f)
  rest_inner ns n (no m) q qs f = absurd (let z : suc (length qs) ≡ 0 = ap length f in omega arith)

  more_stands : (i : At) (p q : Part) (qs : List Part) → ((raw_parts i).make some_parts some_parts_shaped).Fits (parts_from (p ∷ q ∷ qs))
      → ((l : suc p.key ≤ top) → (some_parts (record { seen = seen_after i (unsigned_abs p.factor); low = suc p.key; room = l })).Fits (q ∷ qs)
      → Stand (record { seen = seen_after i (unsigned_abs p.factor); low = suc p.key; room = l }) (q ∷ qs)) → Stand i (p ∷ q ∷ qs)
  unfolding sequence both fixed
  more_stands i p q qs f ih =
      let may = (factor_tests i p.factor 32 f.0).0 in
      let size = factor_within i (unsigned_abs p.factor) may in
      let named = name_tests i (unsigned_abs p.factor) (p.key, 32) f.1.0 in
      let place = name_within i.low (seen_after i (unsigned_abs p.factor)) p.key named.0 in
      let inner = rest_inner (seen_after i (unsigned_abs p.factor)) p.key (can_rise suc p.key) q qs f.1.1 in
      let others = ih inner.0 inner.1 in (
        (place.0, place.1, size.0, size.1, others.0),
        subst (λ ns. IsTrue (is_lowest den ns)) (append_assoc i.seen (unsigned_abs p.factor ∷ []) (factor_sizes (q ∷ qs)))
            (subst (λ ns. IsTrue (is_lowest den (ns ++ factor_sizes (q ∷ qs)))) (seen_is i (unsigned_abs p.factor) may) others.1),
      )

  pub parts_stand : (i : At) (p : Part) (ps : List Part) → (some_parts i).Fits (p ∷ ps) → Stand i (p ∷ ps)
  parts_stand i p [] f = one_stands i p (made_parts i (p ∷ []) f)
  parts_stand i p (q ∷ qs) f =
      more_stands i p q qs (made_parts i (p ∷ q ∷ qs) f) (λ l h. parts_stand (record { seen = seen_after i (unsigned_abs p.factor); low = suc p.key; room = l }) q qs h)
