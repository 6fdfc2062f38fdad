-- Points: a name and a fraction in lowest terms, `point N T/B`. A number outside the limits, above or below the stroke, is told at the first byte of the fraction.
use Rattle.std.specs.Prelude.{ℕ, suc, ℤ, pos, ◌-◌, ◌^◌, ◌≤◌, ◌<◌, Bool, true, false, IsTrue, nat_eq, nat_le, List, [], ◌∷◌, ◌++◌, ◌≡◌, decimal, unsigned_abs}
use lib.IntN.{negsuc}
use mathlib.Core.Path.{refl, sym, ap, ◌∙◌, subst}
use mathlib.Core.Logic.{inl, inr}
use mathlib.Core.List.{append_assoc}
use native.Mathlib.Omega.{arith}
use Rattle.std.proofs.lemmas.Bool.{ne_eqb, eqb-true, le-leb}
use Rattle.std.specs.Fmt.{signed_decimal}
use Rattle.ae_codes.specs.Codes.{Code, StartsNumeral, is_digit, limit, both, one, mapped, words, too_wide}
use Rattle.ae_codes.specs.Closers.{by_blank, closes_one, sizes}
use Rattle.ae_codes.specs.Fractions.{denominators, denominators_end, lowest, passing, passing_by}
use Rattle.ae_codes.specs.Integers.{Whole, integer_to, integer_from, integer_back, whole}
use Rattle.ae_codes.specs.Machines.{checked, machine}
use Rattle.ae_codes.specs.Numbers.{Closed, number, number_machine, and_both, digit_low}
use Rattle.ae_codes.specs.Numerals.{Signed, over, signed, plain, below, narrow, starts}
use Rattle.ae_codes.specs.Rows.{alone}
use Rattle.ae_journal.specs.declared.systems.PointAt.{PointAt}
use Rattle.ae_prooftext.specs.Parts.{closed_by}
use Rattle.ae_prooftext.specs.Clauses.{number_is_spelled}
use Rattle.ae_stategrammar.specs.StateTexts.{point_line}

abbrev pub is_stroke : ℕ → Bool
is_stroke x = nat_eq x 47

abbrev pub is_end : ℕ → Bool
is_end x = nat_eq x 10

pub stroke_apart : (x : ℕ) → is_digit x ≡ true → is_stroke x ≡ false
stroke_apart x d = let l = digit_low x d in ne_eqb x 47 (λ e. omega arith)

pub end_apart : (x : ℕ) → is_digit x ≡ true → is_end x ≡ false
end_apart x d = let l = digit_low x d in ne_eqb x 10 (λ e. omega arith)

abbrev pub stroke_end : (x : ℕ) × IsTrue (is_stroke x)
stroke_end = (47, refl)

abbrev pub line_end : (x : ℕ) × IsTrue (is_end x)
line_end = (10, refl)

-- ---- the two numbers
abbrev pub size_of : Whole → ℕ
size_of (inl v) = v.1.0
size_of (inr v) = v.0

abbrev pub upper : Code Whole
upper = whole is_stroke stroke_apart stroke_end

abbrev pub lower : ℕ → Code Closed
lower n = machine (number_machine (denominators n is_end end_apart line_end))

abbrev pub RawFraction : Type 0
RawFraction = (v : Whole) × Closed

abbrev pub raw_fraction : Code RawFraction
raw_fraction = both upper (λ v. lower (size_of v))

-- it is the text of a numeral with a stroke
abbrev pub numerals : Code Signed
numerals = signed is_end end_apart line_end

abbrev pub as_numeral : RawFraction → Signed
as_numeral (inl v, d) = inl (tt, ((v.1.0, 47), over d))
as_numeral (inr v, d) = inr ((v.0, 47), over d)

upper_closed : (v : Whole) → upper.Fits v → (integer_to v).1 ≡ 47
unfolding whole one both alone words machine number_machine
upper_closed (inl v) f = eqb-true v.1.1 47 f.1.1
upper_closed (inr v) f = eqb-true v.1 47 f.1

numeral_fits : (v : RawFraction) → raw_fraction.Fits v → numerals.Fits (as_numeral v)
unfolding whole signed plain below one both alone words mapped machine number_machine
numeral_fits (inl v, d) f = (refl, ((f.0.1.0, refl), (f.1, refl)))
numeral_fits (inr v, d) f = ((f.0.0, refl), (f.1, refl))

numeral_text : (v : RawFraction) → raw_fraction.Fits v → raw_fraction.text v ≡ numerals.text (as_numeral v)
unfolding whole signed plain below one both alone words mapped machine number_machine
numeral_text (inl v, d) f = ap (λ e. (45 ∷ (decimal v.1.0 ++ e ∷ [])) ++ (decimal d.0 ++ d.1 ∷ [])) (upper_closed (inl v) f.0)
numeral_text (inr v, d) f = ap (λ e. (decimal v.0 ++ e ∷ []) ++ (decimal d.0 ++ d.1 ∷ [])) (upper_closed (inr v) f.0)

pub fraction_narrow : (v : RawFraction) (rest : List ℕ) → raw_fraction.Fits v → too_wide (raw_fraction.text v ++ rest) ≡ false
fraction_narrow v rest f = ap (λ w. too_wide (w ++ rest)) (numeral_text v f) ∙ narrow is_end end_apart line_end (as_numeral v) rest (numeral_fits v f)

pub fraction_starts : (v : RawFraction) → raw_fraction.Fits v → StartsNumeral (raw_fraction.text v)
fraction_starts v f = subst StartsNumeral (sym (numeral_text v f)) (starts is_end end_apart line_end (as_numeral v) (numeral_fits v f))

abbrev pub checked_fraction : Code RawFraction
checked_fraction = checked too_wide raw_fraction fraction_narrow (λ bytes h. h) fraction_starts

-- ---- the point of a name
abbrev pub RawPoint : Type 0
RawPoint = (u : Unit {0}) × ((n : Closed) × RawFraction)

abbrev pub raw_point : Code RawPoint
raw_point = both (alone {A = Unit {0}} tt (112 ∷ 111 ∷ 105 ∷ 110 ∷ 116 ∷ 32 ∷ [])) (λ u. both (number (sizes by_blank)) (λ n. checked_fraction))

abbrev pub point_to : RawPoint → PointAt
point_to v = record { name = v.1.0.0; top = (integer_to v.1.1.0).0; bottom = pos v.1.1.1.0 }

abbrev pub point_from : PointAt → RawPoint
point_from p = (tt, ((p.name, 32), (integer_from (p.top, 47), (unsigned_abs p.bottom, 10))))

upper_back : (v : Whole) → upper.Fits v → integer_from ((integer_to v).0, 47) ≡ v
unfolding checked
upper_back v f = ap (λ e. integer_from ((integer_to v).0, e)) (sym (upper_closed v f)) ∙ integer_back is_stroke stroke_apart stroke_end v f

lower_closed : (n : ℕ) (d : Closed) → (lower n).Fits d → d.1 ≡ 10
unfolding machine number_machine
lower_closed n d f = eqb-true d.1 10 (denominators_end n is_end end_apart line_end d.0 d.1 f.1)

name_closed : (v : Closed) → (number (sizes by_blank)).Fits v → v.1 ≡ 32
unfolding by_blank
name_closed v f = closes_one 32 v.1 (closed_by by_blank v f)

pub point_back : (v : RawPoint) → raw_point.Fits v → point_from (point_to v) ≡ v
unfolding both checked
point_back v f =
    let n = name_closed v.1.0 f.1.0 in
    let t = upper_back v.1.1.0 f.1.1.0 in
    let d = lower_closed (size_of v.1.1.0) v.1.1.1 f.1.1.1 in
    λ i. (tt, ((v.1.0.0, sym n i), (t i, (v.1.1.1.0, sym d i))))

unfoldable pub point : Code PointAt
point = mapped point_to point_from raw_point point_back

pub point_first : (p : PointAt) → point.Fits p → (x : ℕ) × (xs : List ℕ) × (point.text p ≡ x ∷ xs) × (x ≡ 112)
unfolding point mapped both alone words
point_first p f = (112, _, refl, refl)

-- ---- its text
upper_spelled : (z : ℤ) → upper.text (integer_from (z, 47)) ≡ signed_decimal z ++ 47 ∷ []
unfolding whole one both alone words machine number_machine
upper_spelled (pos n) = refl
upper_spelled (negsuc n) = refl

abbrev opening : List ℕ
opening = 112 ∷ 111 ∷ 105 ∷ 110 ∷ 116 ∷ 32 ∷ []

regroup : (n t b : List ℕ) → opening ++ ((n ++ 32 ∷ []) ++ ((t ++ 47 ∷ []) ++ (b ++ 10 ∷ []))) ≡ opening ++ n ++ 32 ∷ [] ++ t ++ 47 ∷ [] ++ b ++ 10 ∷ []
regroup n t b =
    sym (append_assoc opening (n ++ 32 ∷ []) ((t ++ 47 ∷ []) ++ (b ++ 10 ∷ [])))
    ∙ ap (λ z. z ++ ((t ++ 47 ∷ []) ++ (b ++ 10 ∷ []))) (sym (append_assoc opening n (32 ∷ [])))
    ∙ sym (append_assoc (opening ++ n ++ 32 ∷ []) (t ++ 47 ∷ []) (b ++ 10 ∷ []))
    ∙ ap (λ z. z ++ (b ++ 10 ∷ [])) (sym (append_assoc (opening ++ n ++ 32 ∷ []) t (47 ∷ [])))
    ∙ sym (append_assoc (opening ++ n ++ 32 ∷ [] ++ t ++ 47 ∷ []) b (10 ∷ []))

lower_spelled : (n : ℕ) (d : Closed) → (lower n).text d ≡ decimal d.0 ++ d.1 ∷ []
unfolding machine number_machine
lower_spelled n d = refl

pub point_spelled : (p : PointAt) → point.Fits p → point.text p ≡ point_line p
unfolding point mapped both alone words checked
point_spelled p f =
    ap (λ z. opening ++ (z ++ (upper.text (integer_from (p.top, 47)) ++ (lower (size_of (integer_from (p.top, 47)))).text (unsigned_abs p.bottom, 10)))) (number_is_spelled by_blank (p.name, 32))
    ∙ ap (λ z. opening ++ ((decimal p.name ++ 32 ∷ []) ++ (z ++ (lower (size_of (integer_from (p.top, 47)))).text (unsigned_abs p.bottom, 10)))) (upper_spelled p.top)
    ∙ ap (λ z. opening ++ ((decimal p.name ++ 32 ∷ []) ++ ((signed_decimal p.top ++ 47 ∷ []) ++ z))) (lower_spelled (size_of (integer_from (p.top, 47))) (unsigned_abs p.bottom, 10))
    ∙ regroup (decimal p.name) (signed_decimal p.top) (decimal (unsigned_abs p.bottom))
    ∙ ap (λ z. opening ++ decimal p.name ++ 32 ∷ [] ++ signed_decimal p.top ++ 47 ∷ [] ++ z ++ 10 ∷ []) (ap (λ q. signed_decimal q.bottom) f.1)

-- ---- which points have a text: those of names of 64 bits, in lowest terms, within the limits
pub record PointStands (p : PointAt) : Type 0 where
  pub name : p.name < 2 ^ 64
  pub top_within : unsigned_abs p.top ≤ limit
  pub positive : pos (unsigned_abs p.bottom) ≡ p.bottom
  pub lowest : IsTrue (lowest (unsigned_abs p.top) (unsigned_abs p.bottom))

upper_fits : (z : ℤ) → unsigned_abs z ≤ limit → upper.Fits (integer_from (z, 47))
unfolding whole one both alone words machine number_machine
upper_fits (pos n) l = (and_both (nat_le 0 n) (nat_le n limit) (le-leb 0 n (omega arith)) (le-leb n limit l), refl)
upper_fits (negsuc n) l = (refl, (and_both (nat_le 1 (suc n)) (nat_le (suc n) limit) (le-leb 1 (suc n) (omega arith)) (le-leb (suc n) limit l), refl))

size_is : (z : ℤ) → size_of (integer_from (z, 47)) ≡ unsigned_abs z
size_is (pos n) = refl
size_is (negsuc n) = refl

lower_fits : (n d : ℕ) → IsTrue (lowest n d) → (lower n).Fits (d, 10)
unfolding machine number_machine denominators passing passing_by
lower_fits n d h = (h, refl)

top_back : (z : ℤ) → (integer_to (integer_from (z, 47))).0 ≡ z
top_back (pos n) = refl
top_back (negsuc n) = refl

name_fits : (n : ℕ) → n < 2 ^ 64 → (number (sizes by_blank)).Fits (n, 32)
unfolding number checked machine number_machine by_blank
name_fits n l = (and_both (nat_le 0 n) (nat_le n (2 ^ 64 - 1)) (le-leb 0 n (omega arith)) (le-leb n (2 ^ 64 - 1) (omega arith)), refl)

pub point_fits : (p : PointAt) → PointStands p → point.Fits p
unfolding point mapped both alone words checked
point_fits p s = (
  (refl, (name_fits p.name s.name, (upper_fits p.top s.top_within, subst (λ n. (lower n).Fits (unsigned_abs p.bottom, 10)) (sym (size_is p.top)) (lower_fits (unsigned_abs p.top) (unsigned_abs p.bottom) s.lowest)))),
  (λ i. record { name = p.name; top = top_back p.top i; bottom = s.positive i }),
)
