-- Linear forms as the grammar reads them.
use Rattle.std.proofs.Common.{ℕ, zero, suc, ℤ, pos, ◌+◌, ◌-◌, ◌≤◌, Bool, true, false, ◌&&◌, ◌||◌, cond, IsTrue, nat_eq, nat_le, nat_lt, List, [], ◌∷◌, ◌++◌, ◌≡◌, ◌≢◌, drop, unsigned_abs, refl, sym, ap, ◌∙◌, subst, arith, append_assoc}
use mathlib.Core.Logic.{inl, inr}
use Rattle.std.specs.Prelude.{Ok}
use Rattle.std.specs.Int.{IsGcd, w128}
use Rattle.std.proofs.lemmas.Int.{to_z-of_z, fits_signed_from_abs}
use mir.Val.{of_z, to_z}
use Rattle.std.proofs.lemmas.Bool.{eqb-true, eq-eqb, ne_eqb, leb-true, le-leb, ltb-true, lt-ltb}
use Rattle.std.proofs.Math.Bool.{and-true}
use Rattle.ae_codes.specs.Closers.{Close, by_blank, closers}
use Rattle.ae_codes.specs.Codes.{Read, got, stops, wide, Code, both, wide_digits, limit, takes}
use Rattle.ae_codes.specs.Fractions.{lives, lowest, lowest_bound, passing_by, or_cases}
use Rattle.ae_codes.specs.Fractions as fractions
use Rattle.ae_codes.specs.Numbers as numbers
use Rattle.ae_codes.specs.Machines.{machine, run}
use Rattle.ae_codes.specs.Numbers.{Closed, Numbers, number, number_machine, number_step, digit_step, no_digit, read_digits, lies, zero_small, one_small, narrow, starts, wide_is_so, and_one, and_two, not_true}
use Rattle.ae_codes.specs.Plans.{fixed, inside, sequence, sends, coded_shaped, coded_reads}
use Rattle.ae_codes.specs.Rising.{top, from_low, can_rise}
use Rattle.ae_codes.specs.Rows.{alone, empty}
use Rattle.ae_num.specs.declared.forms.Lin.{Lin}
use Rattle.ae_num.specs.declared.forms.Part.{Part}
use Rattle.ae_readers.specs.Denominators.{below_digits, can_live}
use Rattle.ae_readers.specs.Readers.{after_read, before, fixed_read, greatest, long_at, low_of, or_stroke, sign_of, wide_or, FaultIs, ReadsExactly}
use Rattle.ae_readers.proofs.RowReading.{before_none}
use Rattle.ae_readers.proofs.Combinators.{after_after, after_same, mapped_is, checked_is}
use Rattle.ae_readers.proofs.WordReading.{alone_is}
use Rattle.ae_readers.specs.declared.fault.Fault.{Fault}
use Rattle.ae_readers.specs.declared.fault.Fault.TheVariants.{At as FaultAt, WideNumber, Memory}
use Rattle.ae_valuereader.proofs.Divides.{GcdOf, gcd_some, gcd_of_two, gcd_of_more, lowest_by_one, lowest_of_two}
use Rattle.ae_valuereader.proofs.SignReading.{both_then, same_plan, digits_by, integer_is, same_signed}
use Rattle.ae_valuereader.proofs.Spanning.{both_ways, is_between, lies_between, lives_are, same_lives, same_digits}
use Rattle.ae_valuereader.specs.Forms.{positive_digits, den_read, const_digits, const_read, factor_digits, factor_read, key_read, key_span, PartEnd, part_read, rest_read, body_read, form_read}
use Rattle.ae_valuereader.specs.declared.spans.Span.{Span}
use Rattle.ae_valuereader.specs.Spans.{goes, may_close, span_digits, span_read}
use Rattle.ae_valuetext.specs.Lins as lins
use Rattle.ae_valuetext.specs.Lins.{dens, consts, const_positive, const_code, const_ends, first_at, parts_by, RawLin, behind_den, raw_lin, lin_to, lin_from, lin_back, lin_body, opened, linear_form}
use Rattle.ae_valuetext.specs.Parts as parts
use Rattle.ae_valuetext.specs.Parts.{At, is_lowest, is_blank, some_parts, some_parts_shaped, may_be_factor, factors_at, factor_at, factor_positive, factor_bound, factor_tests, seen_after, seen_is}
use Rattle.ae_valuetext.specs.Parts.{some_way, may_be_name, name_bound, name_ends, names_at, rest_by, rest_of, raw_parts, parts_to, parts_from, parts_back, RawParts, Named, named_plan}

-- ---- what follows is read alike, where a value was read
pub after_when : {A B : Type 0} (r : Read A) (f g : A → List ℕ → Read B) → ((a : A) (rest : List ℕ) → r ≡ got a rest → f a rest ≡ g a rest) → after_read r f ≡ after_read r g
after_when (got a rest) f g e = e a rest refl
after_when (stops r) f g e = refl
after_when (wide r) f g e = refl

-- ---- bytes that close
blank_closes : (x : ℕ) → nat_eq x 32 ≡ or_stroke false by_blank x
unfolding by_blank
blank_closes x = both_ways (nat_eq x 32) (nat_eq x 32 || nat_eq x 32) (λ h. numbers.or_one (nat_eq x 32) (nat_eq x 32) h) (λ h. elim (or_cases (nat_eq x 32) (nat_eq x 32) h) [ inl a ↦ a | inr b ↦ b ])

wide_after : {A B : Type 0} (b : Bool) (bytes : List ℕ) (r : Read A) (F : A → List ℕ → Read B) → after_read (wide_or b bytes r) F ≡ wide_or b bytes (after_read r F)
wide_after true bytes r F = refl
wide_after false bytes r F = refl

pub number_is : (k : Numbers) (bytes : List ℕ) → (number k).read bytes ≡ wide_or (wide_digits bytes) bytes (run (number_step k) bytes no_digit)
unfolding number machine number_machine
number_is k bytes = checked_is wide_digits (machine (number_machine k)) (narrow k) wide_is_so (starts k) bytes

-- ---- the denominator
den_digits : (bytes : List ℕ) → run (number_step dens) bytes no_digit ≡ positive_digits bytes
den_digits bytes = same_digits (lies 1 limit) (lies 1 limit) (lies 1 limit) (lies 1 limit) is_blank (λ n x. or_stroke false by_blank x) (λ n. refl) (λ n. refl) (λ n x. blank_closes x) bytes no_digit

den_is : (bytes : List ℕ) {C : Type 0} (F : ℕ → List ℕ → Read C) → after_read ((number dens).read bytes) (λ v rest. F v.0 rest) ≡ after_read (den_read bytes) F
den_is bytes F =
    ap (λ r. after_read r (λ v rest. F v.0 rest)) (number_is dens bytes ∙ ap (wide_or (wide_digits bytes) bytes) (den_digits bytes))
    ∙ wide_after (wide_digits bytes) bytes (positive_digits bytes) (λ v rest. F v.0 rest)
    ∙ ap (wide_or (wide_digits bytes) bytes) (sym (after_after (positive_digits bytes) (λ v rest. got v.0 rest) F))
    ∙ sym (wide_after (wide_digits bytes) bytes (after_read (positive_digits bytes) (λ v rest. got v.0 rest)) F)

-- ---- the constant
const_by : (den : ℕ) (b : Bool) (r : List ℕ) → digits_by (consts den 0 zero_small) (consts den 1 one_small) (const_positive den) b r ≡ const_digits den b r no_digit
const_by den true r = refl
const_by den false r = refl

const_is : (den : ℕ) (bytes : List ℕ) → (const_code den).read bytes ≡ const_read den bytes
const_is den bytes = integer_is (consts den 0 zero_small) (consts den 1 one_small) (const_positive den) bytes ∙ same_signed _ _ (const_by den) bytes

-- ---- factors with their names
without : (b : Bool) → IsTrue (b || false) → IsTrue b
without true h = refl
without false h = h

module _ (den : ℕ) (some : 1 ≤ den) where
  module _ (i : At) (g : ℕ) (all : GcdOf g den i.seen) where
    -- a factor
    may_low : (b : Bool) (n : ℕ) → nat_lt i.low top ≡ b → may_be_factor den i n ≡ cond b (lies 1 limit n) (lowest g n)
    may_low true n e = ap (λ b. lies 1 limit n && (b || is_lowest den (i.seen ++ n ∷ []))) e ∙ and-true (lies 1 limit n)
    may_low false n e =
        ap (λ b. lies 1 limit n && (b || is_lowest den (i.seen ++ n ∷ []))) e
        ∙ ap (λ b. lies 1 limit n && b) (lowest_by_one den g n i.seen some all)
        ∙ lowest_of_two g n (gcd_some den g i.seen some all)

    lies_bound : (n : ℕ) → IsTrue (lies 1 limit n) → n ≤ limit
    lies_bound n h = (is_between 1 limit n h).1

    lives_low : (n : ℕ) → lives (lies 1 limit) lies_bound n ≡ lies 1 limit n
    lives_low n = both_ways (lives (lies 1 limit) lies_bound n) (lies 1 limit n)
        (λ h. elim (or_cases (lies 1 limit n) (nat_lt 0 n && parts_reach) h) [
          | inl a ↦ a
          | inr b ↦ lies_between 1 limit n (let p = ltb-true 0 n (and_one (nat_lt 0 n) parts_reach b) in omega (arith, p)) (fractions.small (lies 1 limit) lies_bound n h)
        ])
        (λ h. ap (λ b. b || (nat_lt 0 n && parts_reach)) h)
      where
        parts_reach : Bool
        parts_reach = fractions.reach (lies 1 limit) lies_bound 40 n

    factor_step : (b : Bool) (r : List ℕ) → nat_lt i.low top ≡ b → run (number_step (factors_at den i)) r no_digit ≡ cond b (positive_digits r) (below_digits g by_blank r no_digit)
    unfolding passing_by can_live
    factor_step true r e =
        same_digits (may_be_factor den i) (lies 1 limit) (lives (may_be_factor den i) (factor_bound den i)) (lies 1 limit) is_blank (λ n x. or_stroke false by_blank x)
        (λ n. may_low true n e) (λ n. same_lives (may_be_factor den i) (factor_bound den i) (lies 1 limit) lies_bound (λ n. may_low true n e) n ∙ lives_low n) (λ n x. blank_closes x) r no_digit
    factor_step false r e =
        same_digits (may_be_factor den i) (lowest g) (lives (may_be_factor den i) (factor_bound den i)) (can_live g) is_blank (λ n x. closers by_blank.one by_blank.two x)
        (λ n. may_low false n e) (λ n. same_lives (may_be_factor den i) (factor_bound den i) (lowest g) (lowest_bound g) (λ n. may_low false n e) n) (λ n x. blank_closes x) r no_digit

    factor_by : (b : Bool) (r : List ℕ) → digits_by (factors_at den i) (factors_at den i) (factor_positive den i) b r ≡ factor_digits i.low g r
    factor_by true r = factor_step (nat_lt i.low top) r refl
    factor_by false r = factor_step (nat_lt i.low top) r refl

    factor_is : (bytes : List ℕ) → (factor_at den i).read bytes ≡ factor_read i.low g bytes
    unfolding factor_read
    factor_is bytes = integer_is (factors_at den i) (factors_at den i) (factor_positive den i) bytes ∙ same_signed _ _ factor_by bytes

    -- its name
    module _ (k : ℕ) (may : IsTrue (may_be_factor den i k)) where
      abbrev ns : List ℕ
      ns = seen_after den i k

      abbrev whole : Bool
      whole = is_lowest g (k ∷ [])

      whole_is : is_lowest den ns ≡ whole
      whole_is = ap (is_lowest den) (seen_is den i k may) ∙ lowest_by_one den g k i.seen some all

      abbrev high : Bool → ℕ
      high b = cond b top (top - 1)

      above : (b : Bool) → is_lowest den ns ≡ b → i.low ≤ high b
      above true e = i.room
      above false e = let w = subst (λ b. IsTrue (nat_lt i.low top || b)) e (some_way den i k) in let l = ltb-true i.low top (without (nat_lt i.low top) w) in omega (arith, l)

      name_by : (b : Bool) (n : ℕ) → is_lowest den ns ≡ b → may_be_name den i.low ns n ≡ lies i.low (high b) n
      name_by true n e = ap (λ b. from_low i.low n && (nat_lt n top || b)) e ∙ drop_true (from_low i.low n) (nat_lt n top)
        where
          drop_true : (a b : Bool) → a && (b || true) ≡ a
          drop_true true true = refl
          drop_true true false = refl
          drop_true false b = refl
      name_by false n e = ap (λ b. from_low i.low n && (nat_lt n top || b)) e ∙ both_ways (from_low i.low n && (nat_lt n top || false)) (lies i.low (top - 1) n)
          (λ h. let l = is_between i.low top n (and_one (from_low i.low n) (nat_lt n top || false) h) in
          let u = ltb-true n top (without (nat_lt n top) (and_two (from_low i.low n) (nat_lt n top || false) h)) in
          lies_between i.low (top - 1) n l.0 (omega (arith, u)))
          (λ h. let l = is_between i.low (top - 1) n h in let q = l.1 in
          numbers.and_both (from_low i.low n) (nat_lt n top || false) (lies_between i.low top n l.0 (omega (arith, q))) (numbers.or_one (nat_lt n top) false (lt-ltb n top (omega (arith, q)))))

      below_top : (n : ℕ) → nat_lt n top ≡ nat_le n (top - 1)
      below_top n = both_ways (nat_lt n top) (nat_le n (top - 1)) (λ h. let l = ltb-true n top h in le-leb n (top - 1) (omega (arith, l))) (λ h. let l = leb-true n (top - 1) h in lt-ltb n top (omega (arith, l)))

      ends_by : (n x : ℕ) → name_ends den ns n x ≡ may_close (key_span i.low whole) n x
      ends_by n x = ap (λ b. (nat_eq x 41 && b) || (nat_eq x 32 && nat_lt n top)) whole_is ∙ ap (λ b. (nat_eq x 41 && whole) || (nat_eq x 32 && b)) (below_top n)

      name_digits : (r : List ℕ) → run (number_step (names_at den i k)) r no_digit ≡ span_digits (key_span i.low whole) r no_digit
      unfolding passing_by
      name_digits r = same_digits (may_be_name den i.low ns) (lies i.low (high whole)) (lives (may_be_name den i.low ns) (name_bound den i.low ns)) (goes (key_span i.low whole)) (name_ends den ns) (may_close (key_span i.low whole))
          (λ n. name_by whole n whole_is)
          (λ n. lives_are (may_be_name den i.low ns) (name_bound den i.low ns) i.low (high whole) (above whole whole_is) (λ n. name_by whole n whole_is) n) ends_by r no_digit

      name_is : (r : List ℕ) → (number (names_at den i k)).read r ≡ span_read (key_span i.low whole) r
      name_is r = number_is (names_at den i k) r ∙ ap (wide_or (wide_digits r) r) (name_digits r)

    -- ---- one turn
    abbrev parts_at : At → Code (List Part)
    parts_at = some_parts den

    abbrev shaped_at : parts.PartsInner den parts_at
    shaped_at = some_parts_shaped den

    abbrev rest_code : List ℕ → Closed → Code (List Part)
    rest_code ms v = (rest_of den ms v).make parts_at shaped_at

    -- what is done with a factor, its name, and what is read behind them
    abbrev turn : (List ℕ → Closed → List ℕ → Read (List Part)) → List ℕ → Read (List Part)
    turn more bytes = after_read (factor_read i.low g bytes) (λ f r. after_read (span_read (key_span i.low (is_lowest g (unsigned_abs f.0 ∷ []))) r) (λ v q.
        after_read (more (i.seen ++ unsigned_abs f.0 ∷ []) v q) (λ ps rest. got (record { key = v.0; factor = f.0 } ∷ ps) rest)))

    raw_is : (bytes : List ℕ) → after_read (((raw_parts den i).make parts_at shaped_at).read bytes) (λ v rest. got (parts_to den v) rest) ≡ turn (λ ms v q. (rest_code ms v).read q) bytes
    unfolding sequence fixed
    raw_is bytes =
        both_then (factor_at den i) (λ f. both (number (names_at den i (unsigned_abs f.0))) (rest_code (seen_after den i (unsigned_abs f.0)))) bytes (λ v rest. got (parts_to den v) rest)
        ∙ after_when ((factor_at den i).read bytes) _ _ (λ f r e.
        let may = (factor_tests den i f.0 f.1 (takes (factor_at den i) bytes f r e).1).0 in
        both_then (number (names_at den i (unsigned_abs f.0))) (rest_code (seen_after den i (unsigned_abs f.0))) r (λ v rest. got (parts_to den (f, v)) rest)
        ∙ ap (λ z. after_read z (λ v q. after_read ((rest_code (seen_after den i (unsigned_abs f.0)) v).read q) (λ ps rest. got (record { key = v.0; factor = f.0 } ∷ ps) rest))) (name_is (unsigned_abs f.0) may r)
        ∙ ap (λ ms. after_read (span_read (key_span i.low (is_lowest g (unsigned_abs f.0 ∷ []))) r)
        (λ v q. after_read ((rest_code ms v).read q) (λ ps rest. got (record { key = v.0; factor = f.0 } ∷ ps) rest))) (seen_is den i (unsigned_abs f.0) may))
        ∙ ap (λ z. after_read z (λ f r. after_read (span_read (key_span i.low (is_lowest g (unsigned_abs f.0 ∷ []))) r)
        (λ v q. after_read ((rest_code (i.seen ++ unsigned_abs f.0 ∷ []) v).read q) (λ ps rest. got (record { key = v.0; factor = f.0 } ∷ ps) rest)))) (factor_is bytes)

    pub parts_turn : (bytes : List ℕ) → (some_parts den i).read bytes ≡ turn (λ ms v q. (rest_code ms v).read q) bytes
    unfolding some_parts sends
    parts_turn bytes =
        coded_reads {T = λ i. List Part} (parts.parts_shape den) (parts.sure_parts den) (parts.parts_layers den) i bytes
        ∙ same_plan {T = λ i. List Part} (parts.parts_shape den) (parts.sure_parts den) (parts.parts_plan den i) parts_at
        (coded_shaped {T = λ i. List Part} (parts.parts_shape den) (parts.sure_parts den) (parts.parts_layers den)) shaped_at bytes
        ∙ mapped_is (parts_to den) (parts_from den) ((raw_parts den i).make parts_at shaped_at) (parts_back den i parts_at shaped_at) bytes
        ∙ raw_is bytes

    -- the same, by what is read of a factor and its name at once
    pub parts_step : (bytes : List ℕ) → (some_parts den i).read bytes
        ≡ after_read (part_read i.low g bytes) (λ p q. after_read ((rest_code (i.seen ++ unsigned_abs p.0.factor ∷ []) (p.0.key, p.1)).read q) (λ ps rest. got (p.0 ∷ ps) rest))
    unfolding key_read factor_read
    parts_step bytes =
        parts_turn bytes
        ∙ after_same (factor_read i.low g bytes) _ _ (λ f r. sym (after_after (span_read (key_span i.low (is_lowest g (unsigned_abs f.0 ∷ []))) r) _ _))
        ∙ sym (after_after (factor_read i.low g bytes) _ _)

  -- what stands behind a name
  rest_on : (ms : List ℕ) (n : ℕ) (b : Bool) (d : Dec (suc n ≤ top)) (q : List ℕ) → b ≡ true → suc n ≤ top
      → (l : suc n ≤ top) × (((rest_by den b ms n d).make (some_parts den) (some_parts_shaped den)).read q ≡ (some_parts den (record { seen = ms; low = suc n; room = l })).read q)
  unfolding rest_by inside
  rest_on ms n true (yes l) q e h = (l, refl)
  rest_on ms n true (no m) q e h = absurd (m h)
  rest_on ms n false d q e h = absurd cc

  rest_off : (ms : List ℕ) (n : ℕ) (b : Bool) (d : Dec (suc n ≤ top)) (q : List ℕ) → b ≡ false → ((rest_by den b ms n d).make (some_parts den) (some_parts_shaped den)).read q ≡ got [] q
  unfolding rest_by fixed empty
  rest_off ms n true d q e = absurd cc
  rest_off ms n false d q e = refl

  before_one : (xs : List Part) (x : Part) (r : Read (List Part)) → before xs (after_read r (λ ys end. got (x ∷ ys) end)) ≡ before (xs ++ x ∷ []) r
  before_one xs x (got ys rest) = ap (λ z. got z rest) (sym (append_assoc xs (x ∷ []) ys))
  before_one xs x (stops r) = refl
  before_one xs x (wide r) = refl

  -- ---- as far as a loop over factors has come
  module _ (size : ℕ) (text : List ℕ) (from : ℕ) where
    abbrev pub whole_read : Read (List Part)
    whole_read = rest_read true den size (drop from text)

    -- names from `low` on are left, and `g` is the greatest common divisor of what stands before
    abbrev pub SoFar : ℕ → ℕ → ℕ → List Part → Type 0
    SoFar g low at ps = (i : At) × (i.low ≡ low) × GcdOf g den i.seen × (whole_read ≡ before ps ((some_parts den i).read (drop at text)))

    module _ (g low at : ℕ) (xs : List Part) (far : SoFar g low at xs) where
      abbrev place : At
      place = far.0

      abbrev behind : (p : PartEnd) → List ℕ → Read (List Part)
      behind p q = after_read (((rest_of den (place.seen ++ unsigned_abs p.0.factor ∷ []) (p.0.key, p.1)).make (some_parts den) (some_parts_shaped den)).read q) (λ ps rest. got (p.0 ∷ ps) rest)

      whole_step : whole_read ≡ before xs (after_read (part_read low g (drop at text)) behind)
      whole_step = far.3 ∙ ap (before xs) (parts_step place g far.2 (drop at text) ∙ ap (λ n. after_read (part_read n g (drop at text)) behind) far.1)

      whole_after : (r : Read PartEnd) → part_read low g (drop at text) ≡ r → whole_read ≡ before xs (after_read r behind)
      whole_after r e = whole_step ∙ ap (λ r. before xs (after_read r behind)) e

      pub parts_faulty : (f : Fault) → FaultIs text f (part_read low g (drop at text)) → FaultIs text f whole_read
      parts_faulty (FaultAt p) e = whole_after (stops (drop p text)) e
      parts_faulty (WideNumber p) e = whole_after (wide (drop p text)) e
      parts_faulty Memory e = tt

      pub parts_end : (v : PartEnd) (next : ℕ) (ys : List Part) → part_read low g (drop at text) ≡ got v (drop next text) → v.1 ≢ 32 → ys ≡ xs ++ v.0 ∷ [] → whole_read ≡ got ys (drop next text)
      parts_end v next ys e q p =
          whole_after (got v (drop next text)) e
          ∙ ap (λ z. before xs (after_read z (λ ps rest. got (v.0 ∷ ps) rest))) (rest_off (place.seen ++ unsigned_abs v.0.factor ∷ []) v.0.key (nat_eq v.1 32) (can_rise suc v.0.key) (drop next text) (ne_eqb v.1 32 q))
          ∙ ap (λ z. got z (drop next text)) (sym p)

      pub parts_go_on : (v : PartEnd) (next h more : ℕ) (ys : List Part) → part_read low g (drop at text) ≡ got v (drop next text) → v.1 ≡ 32 → v.0.key ≤ top - 1 → ys ≡ xs ++ v.0 ∷ []
          → IsGcd g (unsigned_abs v.0.factor) h → more ≡ v.0.key + 1 → SoFar h more next ys
      parts_go_on v next h more ys e q l p j m =
          let ms = place.seen ++ unsigned_abs v.0.factor ∷ [] in
          let on = rest_on ms v.0.key (nat_eq v.1 32) (can_rise suc v.0.key) (drop next text) (eq-eqb v.1 32 q) (omega (arith, l)) in (
            record { seen = ms; low = suc v.0.key; room = on.0 },
            omega (arith, m),
            gcd_of_more den g (unsigned_abs v.0.factor) h place.seen far.2 j,
            whole_after (got v (drop next text)) e
                ∙ ap (λ z. before xs (after_read z (λ ps rest. got (v.0 ∷ ps) rest))) on.1
                ∙ before_one xs v.0 ((some_parts den (record { seen = ms; low = suc v.0.key; room = on.0 })).read (drop next text))
                ∙ ap (λ z. before z ((some_parts den (record { seen = ms; low = suc v.0.key; room = on.0 })).read (drop next text))) (sym p),
          )

    pub parts_begin : (g : ℕ) (ps : List Part) → IsGcd den size g → ps ≡ [] → SoFar g 0 from ps
    parts_begin g ps i e = (first_at size, refl, gcd_of_two den size g i, before_none whole_read ∙ ap (λ z. before z whole_read) (sym e))

-- ---- whole forms
rest_is : (b : Bool) (den n : ℕ) (bytes : List ℕ) → (parts_by b den n).read bytes ≡ rest_read b den n bytes
unfolding parts_by empty
rest_is true den n bytes = refl
rest_is false den n bytes = refl

abbrev form_made : RawLin → List ℕ → Read Lin
form_made v rest = got (lin_to v) rest

pub body_is : (bytes : List ℕ) → lin_body.read bytes ≡ body_read bytes
unfolding lin_body
body_is bytes =
    mapped_is lin_to lin_from raw_lin lin_back bytes
    ∙ both_then (number dens) behind_den bytes form_made
    ∙ after_same ((number dens).read bytes) _
    (λ d r. after_read (const_read d.0 r) (λ z q. after_read (rest_read (nat_eq z.1 32) d.0 (unsigned_abs z.0) q) (λ ps rest. got (record { den = pos d.0; parts = ps; constant = z.0 }) rest))) (λ d r.
    both_then (const_code d.0) (λ z. parts_by (nat_eq z.1 32) d.0 (unsigned_abs z.0)) r (λ v rest. form_made (d, v) rest)
    ∙ ap (λ y. after_read y (λ z q. after_read ((parts_by (nat_eq z.1 32) d.0 (unsigned_abs z.0)).read q) (λ ps rest. got (record { den = pos d.0; parts = ps; constant = z.0 }) rest))) (const_is d.0 r)
    ∙ after_same (const_read d.0 r) _ _ (λ z q. ap (λ y. after_read y (λ ps rest. got (record { den = pos d.0; parts = ps; constant = z.0 }) rest)) (rest_is (nat_eq z.1 32) d.0 (unsigned_abs z.0) q)))
    ∙ den_is bytes (λ d r. after_read (const_read d r) (λ z q. after_read (rest_read (nat_eq z.1 32) d (unsigned_abs z.0) q) (λ ps rest. got (record { den = pos d; parts = ps; constant = z.0 }) rest)))

pub form_is : (bytes : List ℕ) → linear_form.read bytes ≡ form_read bytes
unfolding linear_form
form_is bytes =
    mapped_is (λ v. v.1) (λ l. (tt, l)) opened (λ v f. refl) bytes
    ∙ both_then (alone {A = Unit {0}} tt lins.lin_opening) (λ u. lin_body) bytes (λ v rest. got v.1 rest)
    ∙ ap (λ r. after_read r (λ u q. after_read (lin_body.read q) (λ l rest. got l rest))) (alone_is tt lins.lin_opening bytes)
    ∙ after_after (fixed_read lins.lin_opening bytes) (λ u rest. got tt rest) _
    ∙ after_same (fixed_read lins.lin_opening bytes) _ _ (λ u q. ap (λ z. after_read z (λ l rest. got l rest)) (body_is q))

-- ---- a denominator is positive
pub long_least : (signed stroke : Bool) (k : Close) (text : List ℕ) (at : ℕ) (v : Closed) (next : ℕ) → ReadsExactly (long_at signed stroke k) text at (Ok (v, next)) → low_of signed ≤ v.0
unfolding ReadsExactly machine number_machine
long_least signed stroke k text at v next h = leb-true (low_of signed) v.0 (and_one (nat_le (low_of signed) v.0) (nat_le v.0 limit) h.1.0)

-- a name that a blank closes isn't the greatest
pub more_keys : (low n e : ℕ) (whole : Bool) → may_close (key_span low whole) n e ≡ true → e ≡ 32 → n ≤ top - 1
more_keys low n e whole h q =
    elim (or_cases (nat_eq e 41 && whole) (nat_eq e 32 && nat_le n (top - 1)) h) [
      | inl a ↦ (let x = eqb-true e 41 (and_one (nat_eq e 41) whole a) in absurd (omega (arith, x, q)))
      | inr b ↦ leb-true n (top - 1) (and_two (nat_eq e 32) (nat_le n (top - 1)) b)
    ]

-- the names behind a factor
pub key_by : (low divisor : ℕ) (factor : ℤ) (s : Span) (bytes : List ℕ) → s ≡ key_span low (is_lowest divisor (unsigned_abs factor ∷ [])) → key_read low divisor factor bytes ≡ span_read s bytes
unfolding key_read
key_by low divisor factor s bytes e = ap (λ z. span_read z bytes) (sym e)

-- ---- whole numbers within the limits
pub sign_small : (b : Bool) (n : ℕ) → n ≤ greatest → unsigned_abs (sign_of b n) ≤ greatest
sign_small true zero h = h
sign_small true (suc n) h = h
sign_small false n h = h

pub whole_back : (z : ℤ) → unsigned_abs z ≤ greatest → to_z w128 (of_z w128 z) ≡ z
whole_back z h = to_z-of_z w128 z (fits_signed_from_abs w128 z (omega (arith, h)))
