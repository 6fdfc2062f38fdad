-- Points as the grammar reads them.
use Rattle.std.proofs.Common.{ℕ, pos, suc, ◌+◌, ◌*◌, ◌-◌, ◌≤◌, ◌<◌, Bool, true, false, ◌&&◌, ◌||◌, nat_eq, nat_lt, List, [], ◌∷◌, ◌++◌, ◌≡◌, ◌≢◌, length, drop, refl, sym, ap, ◌∙◌, append_assoc, arith, length-append}
use Rattle.std.proofs.Math.Bool.{or_self}
use Rattle.std.proofs.Math.Seq.{drop-append_seam}
use Rattle.std.proofs.lemmas.List.{length-drop, drop-drop}
use mathlib.Core.Logic.{inl, inr}
use Rattle.std.proofs.lemmas.Bool.{eqb-true, ne_eqb}
use Rattle.std.specs.Prelude.{decimal, Ok}
use Rattle.ae_codes.specs.Closers.{by_blank, by_line, closers, sizes}
use Rattle.ae_codes.specs.Codes.{Read, got, stops, Code, both, too_wide, is_digit, limit}
use Rattle.ae_codes.specs.Fractions.{denominators, lives, lowest, lowest_bound, passing, passing_by}
use Rattle.ae_codes.specs.Integers.{Whole, whole, integer_to, minus, digits_from, minus_begins, plus_begins}
use Rattle.ae_codes.specs.Machines.{machine, run, run_next}
use Rattle.ae_codes.specs.Numbers.{Closed, Digits, digits, no_digit, number, number_machine, digit_step, ended, longer_by, lies, digit_low, one_small, zero_small, read_digits}
use Rattle.ae_codes.specs.Numerals.{is_minus}
use Rattle.ae_codes.specs.Rows.{alone}
use Rattle.ae_journal.specs.declared.systems.PointAt.{PointAt}
use Rattle.ae_readers.specs.Denominators.{below_digits, can_live}
use Rattle.ae_readers.specs.Readers.{ReadsExactly, after_read, fixed_read, greatest, long_at, low_of, or_stroke, sign_of, wide_or}
use Rattle.ae_readers.proofs.Combinators.{after_after, after_same, checked_is, mapped_is, one_is, one_none, on_side}
use Rattle.ae_stategrammar.specs.Points.{is_end, is_stroke, stroke_apart, stroke_end, upper, lower, size_of, raw_fraction, checked_fraction, fraction_narrow, fraction_starts, raw_point, point_to, point_from, point_back, point}
use Rattle.ae_statereader.specs.Items.{Fraction, below_read, top_read, signed_by, signed_read, fraction_read, point_read}
use Rattle.ae_statereader.proofs.NumberedReading.{word_then}
use Rattle.ae_termreader.proofs.SortReading.{both_then, byte_then}
use Rattle.ae_valuereader.proofs.Spanning.{same_digits}

-- ---- the number above the stroke: the end of a line, which `or_line` lets close it, is wrong there
abbrev or_line : ℕ → Bool
or_line = or_stroke true by_line

line_or : (x : ℕ) → or_line x ≡ nat_eq x 47 || nat_eq x 10
unfolding by_line
line_or x = ap (λ b. nat_eq x 47 || b) (or_self (nat_eq x 10))

no_figure : (x : ℕ) → nat_eq x 10 ≡ true → is_digit x ≡ false
no_figure x e = by (is_digit x) refl
  where
    by : (b : Bool) → is_digit x ≡ b → b ≡ false
    by true d = let l = digit_low x d in let q = eqb-true x 10 e in absurd (omega (arith, l, q))
    by false d = refl

abbrev stroked : Bool → Closed → List ℕ → Read Closed
stroked true v rest = got v rest
stroked false v rest = stops (v.1 ∷ rest)

abbrev strict : Read Closed → Read Closed
strict r = after_read r (λ v rest. stroked (nat_eq v.1 47) v rest)

module _ (low high : ℕ) where
  abbrev good : ℕ → Bool
  good n = lies low high n

  abbrev from_line : List ℕ → Digits → Read Closed
  from_line bytes s = run (digit_step good good (λ n x. or_line x)) bytes s

  abbrev from_stroke : List ℕ → Digits → Read Closed
  from_stroke bytes s = run (digit_step good good (λ n x. is_stroke x)) bytes s

  module _ (n x : ℕ) (xs : List ℕ) (m : ℕ) (more : strict (from_line xs (digits m)) ≡ from_stroke xs (digits m)) where
    byte_by : (a b g l : Bool) → nat_eq x 47 ≡ a → (b ≡ true → l ≡ false)
        → strict (run_next (ended ((a || b) && g) n x (longer_by l m)) (x ∷ xs) xs (λ s. from_line xs s)) ≡ run_next (ended (a && g) n x (longer_by l m)) (x ∷ xs) xs (λ s. from_stroke xs s)
    byte_by true b true l p z = ap (λ a. stroked a (n, x) xs) p
    byte_by true b false true p z = more
    byte_by true b false false p z = refl
    byte_by false true g true p z = let q = z refl in absurd cc
    byte_by false true true false p z = ap (λ a. stroked a (n, x) xs) p
    byte_by false true false false p z = refl
    byte_by false false g true p z = more
    byte_by false false g false p z = refl

  first_by : (x : ℕ) (xs : List ℕ) (m : ℕ) (b : Bool) → strict (from_line xs (digits m)) ≡ from_stroke xs (digits m)
      → strict (run_next (longer_by b m) (x ∷ xs) xs (λ s. from_line xs s)) ≡ run_next (longer_by b m) (x ∷ xs) xs (λ s. from_stroke xs s)
  first_by x xs m true h = h
  first_by x xs m false h = refl

  none_left : (a c : Bool) → (a && false) && c ≡ false
  none_left true c = refl
  none_left false c = refl

  pub strict_run : (bytes : List ℕ) (s : Digits) → strict (from_line bytes s) ≡ from_stroke bytes s
  strict_run [] s = refl
  strict_run (x ∷ xs) no_digit = first_by x xs (x - 48) (is_digit x && good (x - 48)) (strict_run xs (digits (x - 48)))
  strict_run (x ∷ xs) (digits n) =
      ap (λ b. strict (run_next (ended (b && good n) n x (longer_by ((nat_lt 0 n && is_digit x) && good (n * 10 + (x - 48))) (n * 10 + (x - 48)))) (x ∷ xs) xs (λ s. from_line xs s))) (line_or x)
      ∙ byte_by n x xs (n * 10 + (x - 48)) (strict_run xs (digits (n * 10 + (x - 48)))) (nat_eq x 47) (nat_eq x 10) (good n) ((nat_lt 0 n && is_digit x) && good (n * 10 + (x - 48))) refl
      (λ e. ap (λ d. (nat_lt 0 n && d) && good (n * 10 + (x - 48))) (no_figure x e) ∙ none_left (nat_lt 0 n) (good (n * 10 + (x - 48))))

-- ---- the number below it
lower_is : (n : ℕ) (bytes : List ℕ) → (lower n).read bytes ≡ below_digits n by_line bytes no_digit
unfolding machine number_machine denominators passing passing_by can_live by_line
lower_is n bytes = same_digits (lowest n) (lowest n) (lives (lowest n) (lowest_bound n)) (can_live n) (λ m x. is_end x) (λ m x. closers by_line.one by_line.two x) (λ m. refl) (λ m. refl) (λ m x. sym (or_self (nat_eq x 10))) bytes no_digit

-- ---- a fraction
module _ {C : Type 0} (F : Fraction → List ℕ → Read C) where
  abbrev below : Whole → List ℕ → Read C
  below v r = after_read ((lower (size_of v)).read r) (λ d e. F ((integer_to v).0, pos d.0) e)

  abbrev sized : Bool → Closed → List ℕ → Read C
  sized signed v r = after_read ((lower v.0).read r) (λ d e. F (sign_of signed v.0, pos d.0) e)

  sized_by : (b signed : Bool) (v : Closed) (rest : List ℕ) → after_read (stroked b v rest) (sized signed) ≡ after_read (below_read b signed v rest) F
  sized_by true signed v rest = ap (λ r. after_read r (λ d e. F (sign_of signed v.0, pos d.0) e)) (lower_is v.0 rest) ∙ sym (after_after (below_digits v.0 by_line rest no_digit) _ F)
  sized_by false signed v rest = refl

  top_is : (signed : Bool) (bytes : List ℕ) → after_read (from_stroke (low_of signed) limit bytes no_digit) (sized signed) ≡ after_read (top_read signed bytes) F
  top_is signed bytes =
      ap (λ r. after_read r (sized signed)) (sym (strict_run (low_of signed) limit bytes no_digit))
      ∙ after_after (from_line (low_of signed) limit bytes no_digit) (λ v rest. stroked (nat_eq v.1 47) v rest) (sized signed)
      ∙ after_same (from_line (low_of signed) limit bytes no_digit) _ _ (λ v rest. sized_by (nat_eq v.1 47) signed v rest)
      ∙ sym (after_after (from_line (low_of signed) limit bytes no_digit) (λ v rest. below_read (nat_eq v.1 47) signed v rest) F)

  abbrev above_zero : Code Closed
  above_zero = digits_from is_stroke stroke_apart stroke_end 1 one_small

  abbrev from_zero : Code Closed
  from_zero = digits_from is_stroke stroke_apart stroke_end 0 zero_small

  abbrev minus_code : Code ((u : Unit {0}) × Closed)
  minus_code = minus is_stroke stroke_apart stroke_end

  minus_is : (xs : List ℕ) → after_read (minus_code.read (45 ∷ xs)) (λ v r. below (inl v) r) ≡ after_read (top_read true xs) F
  unfolding machine number_machine
  minus_is xs =
      both_then (alone {A = Unit {0}} tt (45 ∷ [])) (λ u. above_zero) (45 ∷ xs) (λ v r. below (inl v) r)
      ∙ byte_then 45 xs (λ u r. after_read (above_zero.read r) (λ v e. below (inl (u, v)) e))
      ∙ top_is true xs

  plus_is : (bytes : List ℕ) → after_read (from_zero.read bytes) (λ v r. below (inr v) r) ≡ after_read (top_read false bytes) F
  unfolding machine number_machine
  plus_is bytes = top_is false bytes

  sign_by : (b : Bool) (x : ℕ) (xs : List ℕ) → nat_eq x 45 ≡ b → after_read (on_side b (minus_code.read (x ∷ xs)) (from_zero.read (x ∷ xs))) below ≡ after_read (signed_by b x xs) F
  sign_by true x xs e = let s = eqb-true x 45 e in
      after_after (minus_code.read (x ∷ xs)) _ _ ∙ ap (λ z. after_read (minus_code.read (z ∷ xs)) (λ v r. below (inl v) r)) s ∙ minus_is xs
  sign_by false x xs e = after_after (from_zero.read (x ∷ xs)) _ _ ∙ plus_is (x ∷ xs)

  upper_is : (bytes : List ℕ) → after_read (upper.read bytes) below ≡ after_read (signed_read bytes) F
  unfolding whole
  upper_is [] = ap (λ r. after_read r below) (one_none is_minus minus_code from_zero (minus_begins is_stroke stroke_apart stroke_end) (plus_begins is_stroke stroke_apart stroke_end))
  upper_is (x ∷ xs) =
      ap (λ r. after_read r below) (one_is is_minus minus_code from_zero (minus_begins is_stroke stroke_apart stroke_end) (plus_begins is_stroke stroke_apart stroke_end) x xs)
      ∙ sign_by (nat_eq x 45) x xs refl

  raw_is : (bytes : List ℕ) → after_read (raw_fraction.read bytes) (λ v rest. F ((integer_to v.0).0, pos v.1.0) rest) ≡ after_read (signed_read bytes) F
  raw_is bytes = both_then upper (λ v. lower (size_of v)) bytes (λ v rest. F ((integer_to v.0).0, pos v.1.0) rest) ∙ upper_is bytes

  wide_by : (b : Bool) (bytes : List ℕ) → after_read (wide_or b bytes (raw_fraction.read bytes)) (λ v rest. F ((integer_to v.0).0, pos v.1.0) rest) ≡ after_read (wide_or b bytes (signed_read bytes)) F
  wide_by true bytes = refl
  wide_by false bytes = raw_is bytes

  fraction_is : (bytes : List ℕ) → after_read (checked_fraction.read bytes) (λ v rest. F ((integer_to v.0).0, pos v.1.0) rest) ≡ after_read (fraction_read bytes) F
  fraction_is bytes =
      ap (λ r. after_read r (λ v rest. F ((integer_to v.0).0, pos v.1.0) rest)) (checked_is too_wide raw_fraction fraction_narrow (λ bytes h. h) fraction_starts bytes)
      ∙ wide_by (too_wide bytes) bytes

-- ---- the line
abbrev point_of : ℕ → Fraction → List ℕ → Read PointAt
point_of n f rest = got (record { name = n; top = f.0; bottom = f.1 }) rest

pub point_is : (bytes : List ℕ) → point.read bytes ≡ point_read bytes
unfolding point
point_is bytes =
    mapped_is point_to point_from raw_point point_back bytes
    ∙ both_then (alone {A = Unit {0}} tt (112 ∷ 111 ∷ 105 ∷ 110 ∷ 116 ∷ 32 ∷ [])) (λ u. both (number (sizes by_blank)) (λ n. checked_fraction)) bytes (λ v rest. got (point_to v) rest)
    ∙ word_then (112 ∷ 111 ∷ 105 ∷ 110 ∷ 116 ∷ 32 ∷ []) bytes (λ u r. after_read ((both (number (sizes by_blank)) (λ n. checked_fraction)).read r) (λ v rest. got (point_to (u, v)) rest))
    ∙ after_same (fixed_read (112 ∷ 111 ∷ 105 ∷ 110 ∷ 116 ∷ 32 ∷ []) bytes) _ _ (λ u r.
    both_then (number (sizes by_blank)) (λ n. checked_fraction) r (λ v rest. got (point_to (u, v)) rest)
    ∙ after_same ((number (sizes by_blank)).read r) _ _ (λ n q. fraction_is (point_of n.0) q))

-- ---- the byte before the place where reading ended
pub one_back : (text w : List ℕ) (at behind x : ℕ) → at < behind → behind ≤ length text → drop at text ≡ (w ++ x ∷ []) ++ drop behind text → drop (behind - 1) text ≡ x ∷ drop behind text
one_back text w at behind x low high e =
    let cut : drop at text ≡ w ++ x ∷ drop behind text = e ∙ append_assoc w (x ∷ []) (drop behind text) in
    let all = length-drop at text in
    let rest = length-drop behind text in
    let both : length (drop at text) ≡ length w + suc (length (drop behind text)) = ap length cut ∙ length-append w (x ∷ drop behind text) in
    let place : behind - 1 ≡ at + length w = omega (arith, low, high, all, rest, both) in
    ap (λ n. drop n text) place ∙ sym (drop-drop (length w) at text) ∙ ap (drop (length w)) cut ∙ drop-append_seam w (x ∷ drop behind text)

-- the byte that closed the digits stands there
pub close_back : (negated : Bool) (text : List ℕ) (at behind : ℕ) (v : Closed) → ReadsExactly (long_at negated true by_line) text at (Ok (v, behind)) → at < behind → behind ≤ length text → drop (behind - 1) text ≡ v.1 ∷ drop behind text
unfolding ReadsExactly machine number_machine
close_back negated text at behind v h low high = one_back text (decimal v.0) at behind v.1 low high h.0

-- the end of the line is wrong before a stroke
pub no_stroke : (negated : Bool) (text : List ℕ) (at behind : ℕ) (v : Closed) → read_digits (low_of negated) greatest or_line (drop at text) no_digit ≡ got v (drop behind text) → v.1 ≢ 47
    → drop (behind - 1) text ≡ v.1 ∷ drop behind text → top_read negated (drop at text) ≡ stops (drop (behind - 1) text)
no_stroke negated text at behind v e n back =
    ap (λ r. after_read r (λ v rest. below_read (nat_eq v.1 47) negated v rest)) e ∙ ap (λ b. below_read b negated v (drop behind text)) (ne_eqb v.1 47 n) ∙ ap stops (sym back)
