-- Linear forms, `(lin DEN CONST F1 N1 .. Fn Nn)`: the denominator is positive, names rise, no factor is 0, and no number above 1 divides them all. The bracket may
-- stand behind the constant where that one and the denominator have no common divisor.
use Rattle.std.specs.Prelude.{ℕ, suc, ℤ, pos, ◌≤◌, ◌⊎◌, ◌&&◌, ◌||◌, Bool, true, false, IsTrue, nat_eq, nat_le, List, [], ◌∷◌, ◌++◌, ◌≡◌, decimal, unsigned_abs}
use lib.IntN.{negsuc}
use mathlib.Core.Path.{refl, sym, ap, ◌∙◌}
use mathlib.Core.Logic.{inl, inr}
use mathlib.Core.List.{append_assoc}
use native.Mathlib.Omega.{arith}
use Rattle.std.specs.Fmt.{signed_decimal}
use Rattle.std.specs.List.{flat_map}
use Rattle.std.proofs.lemmas.Bool.{ne_eqb, eqb-true, leb-true, le-leb}
use Rattle.ae_codes.specs.Codes.{Code, is_digit, limit, both, mapped, words}
use Rattle.ae_codes.specs.Machines.{machine, checked}
use Rattle.ae_codes.specs.Numbers.{Closed, Numbers, number, number_machine, zero_small, one_small, and_one, and_two, and_both, or_one, digit_low}
use Rattle.ae_codes.specs.Fractions.{or_cases, or_two}
use Rattle.ae_codes.specs.Integers.{IntegerEnd, integer_text}
use Rattle.ae_codes.specs.Rows.{alone, empty}
use Rattle.ae_num.specs.declared.forms.Lin.{Lin}
use Rattle.ae_num.specs.declared.forms.Part.{Part}
use Rattle.ae_valuetext.specs.Texts.{part_text, lin_text}
use Rattle.ae_valuetext.specs.Wholes.{sized, integer, integer_spelled, integer_passes, passing_fits}
use Rattle.ae_valuetext.specs.Parts.{is_lowest, At, is_blank, blank_apart, some_parts, some_parts_shaped, some_parts_text, close_by, joined_parts, Rise, factor_sizes, parts_fit, parts_stand}

-- ---- the denominator, and the constant behind it
abbrev pub dens : Numbers
dens = sized 1 is_blank one_small blank_apart (λ n. (32, refl))

-- a blank closes a constant, and the bracket where no number above 1 divides it and the denominator
abbrev pub const_ends : ℕ → ℕ → ℕ → Bool
const_ends den n x = (nat_eq x 41 && is_lowest den (n ∷ [])) || nat_eq x 32

pub const_apart : (den n x : ℕ) → is_digit x ≡ true → const_ends den n x ≡ false
const_apart den n x d = go (nat_eq x 41) (nat_eq x 32) (let l = digit_low x d in ne_eqb x 41 (λ e. omega arith)) (let l = digit_low x d in ne_eqb x 32 (λ e. omega arith))
  where
    go : (a b : Bool) → a ≡ false → b ≡ false → (a && is_lowest den (n ∷ [])) || b ≡ false
    go true b p q = absurd cc
    go false true p q = absurd cc
    go false false p q = refl

pub const_end : (den n : ℕ) → (x : ℕ) × IsTrue (const_ends den n x)
const_end den n = (32, or_two (nat_eq 32 41 && is_lowest den (n ∷ [])) (nat_eq 32 32) refl)

abbrev pub consts : ℕ → (lo : ℕ) → lo ≤ 1 → Numbers
consts den lo small = sized lo (const_ends den) small (const_apart den) (const_end den)

pub const_positive : (den n : ℕ) → IsTrue ((consts den 1 one_small).good n) → 1 ≤ n
const_positive den n h = leb-true 1 n (and_one (nat_le 1 n) (nat_le n limit) h)

abbrev pub const_code : ℕ → Code IntegerEnd
const_code den = integer (consts den 0 zero_small) (consts den 1 one_small) (const_positive den)

-- ---- factors and names behind a blank
abbrev pub first_at : ℕ → At
first_at n = record { seen = n ∷ []; low = 0; room = omega arith }

unfoldable pub parts_by : Bool → ℕ → ℕ → Code (List Part)
parts_by true den n = some_parts den (first_at n)
parts_by false den n = empty []

abbrev pub RawLin : Type 0
RawLin = (d : Closed) × ((z : IntegerEnd) × List Part)

abbrev pub behind_den : Closed → Code ((z : IntegerEnd) × List Part)
behind_den d = both (const_code d.0) (λ z. parts_by (nat_eq z.1 32) d.0 (unsigned_abs z.0))

abbrev pub raw_lin : Code RawLin
raw_lin = both (number dens) behind_den

abbrev pub lin_to : RawLin → Lin
lin_to v = record { den = pos v.0.0; parts = v.1.1; constant = v.1.0.0 }

abbrev pub lin_from : Lin → RawLin
lin_from l = ((unsigned_abs l.den, 32), ((l.constant, close_by l.parts), l.parts))

const_closed : (den : ℕ) (z : ℤ) (e : ℕ) → (const_code den).Fits (z, e) → (IsTrue (nat_eq e 41) × IsTrue (is_lowest den (unsigned_abs z ∷ []))) ⊎ IsTrue (nat_eq e 32)
const_closed den (pos n) e f =
    let t = integer_passes (consts den 0 zero_small) (consts den 1 one_small) (const_positive den) (pos n) e f in
    elim (or_cases (nat_eq e 41 && is_lowest den (n ∷ [])) (nat_eq e 32) t.1) [
      | inl a ↦ inl (and_one (nat_eq e 41) (is_lowest den (n ∷ [])) a, and_two (nat_eq e 41) (is_lowest den (n ∷ [])) a)
      | inr b ↦ inr b
    ]
const_closed den (negsuc n) e f =
    let t = integer_passes (consts den 0 zero_small) (consts den 1 one_small) (const_positive den) (negsuc n) e f in
    elim (or_cases (nat_eq e 41 && is_lowest den (suc n ∷ [])) (nat_eq e 32) t.1) [
      | inl a ↦ inl (and_one (nat_eq e 41) (is_lowest den (suc n ∷ [])) a, and_two (nat_eq e 41) (is_lowest den (suc n ∷ [])) a)
      | inr b ↦ inr b
    ]

const_ends_so : (b : Bool) (den n e : ℕ) (ps : List Part) → nat_eq e 32 ≡ b → IsTrue (nat_eq e 41) ⊎ IsTrue (nat_eq e 32) → (parts_by b den n).Fits ps → e ≡ close_by ps
unfolding parts_by empty
const_ends_so true den n e ps q d f = eqb-true e 32 q ∙ sym (ap close_by (((some_parts_shaped den (first_at n)).form ps f).2))
const_ends_so false den n e ps q (inl a) f = eqb-true e 41 a ∙ sym (ap close_by f)
const_ends_so false den n e ps q (inr b) f = absurd (let y : nat_eq e 32 ≡ true = b in cc)

either_close : (den : ℕ) (z : ℤ) (e : ℕ) → (const_code den).Fits (z, e) → IsTrue (nat_eq e 41) ⊎ IsTrue (nat_eq e 32)
either_close den z e f = elim (const_closed den z e f) [ inl a ↦ inl a.0 | inr b ↦ inr b ]

den_closed : (d : Closed) → (number dens).Fits d → (1 ≤ d.0) × (d.0 ≤ limit) × (d.1 ≡ 32)
unfolding number checked machine number_machine
den_closed d f = (leb-true 1 d.0 (and_one (nat_le 1 d.0) (nat_le d.0 limit) f.0), leb-true d.0 limit (and_two (nat_le 1 d.0) (nat_le d.0 limit) f.0), eqb-true d.1 32 f.1)

pub lin_back : (v : RawLin) → raw_lin.Fits v → lin_from (lin_to v) ≡ v
unfolding both
lin_back (d, ((z, e), ps)) f =
    let blank = (den_closed d f.0).2 in
    let closes = const_ends_so (nat_eq e 32) d.0 (unsigned_abs z) e ps refl (either_close d.0 z e f.1.0) f.1.1 in
    λ i. ((d.0, sym blank i), ((z, sym closes i), ps))

-- a linear form behind `(lin `, up to its bracket
unfoldable pub lin_body : Code Lin
lin_body = mapped lin_to lin_from raw_lin lin_back

-- ---- the text
whole_text : (z : ℤ) → integer_text z ≡ signed_decimal z
whole_text (pos n) = refl
whole_text (negsuc n) = refl

den_spelled : (d : Closed) → (number dens).text d ≡ decimal d.0 ++ d.1 ∷ []
unfolding number checked machine number_machine
den_spelled d = refl

rest_spelled : (b : Bool) (den n : ℕ) (ps : List Part) → (parts_by b den n).Fits ps → (parts_by b den n).text ps ≡ joined_parts ps
unfolding parts_by empty
rest_spelled true den n ps f = some_parts_text den (first_at n) ps
rest_spelled false den n ps f = ap joined_parts (sym f)

-- what stands behind the constant
tail_is : (ps : List Part) → close_by ps ∷ joined_parts ps ≡ flat_map part_text ps ++ 41 ∷ []
tail_is [] = refl
tail_is (p ∷ ps) =
    ap (λ w. (32 ∷ integer_text p.factor ++ 32 ∷ []) ++ w) (append_assoc (decimal p.key) (close_by ps ∷ []) (joined_parts ps))
    ∙ ap (λ w. (32 ∷ integer_text p.factor ++ 32 ∷ []) ++ (decimal p.key ++ w)) (tail_is ps)
    ∙ ap (λ w. (32 ∷ w ++ 32 ∷ []) ++ (decimal p.key ++ (flat_map part_text ps ++ 41 ∷ []))) (whole_text p.factor)
    ∙ sym (append_assoc (32 ∷ signed_decimal p.factor ++ 32 ∷ []) (decimal p.key) (flat_map part_text ps ++ 41 ∷ []))
    ∙ sym (append_assoc (part_text p) (flat_map part_text ps) (41 ∷ []))

abbrev pub lin_opening : List ℕ
lin_opening = 40 ∷ 108 ∷ 105 ∷ 110 ∷ 32 ∷ []

-- (d 32)((z e) j) with e j the tail, is ((d 32) z) tail
regroup : (d z t : List ℕ) (e : ℕ) (j : List ℕ) → e ∷ j ≡ t ++ 41 ∷ [] → lin_opening ++ ((d ++ 32 ∷ []) ++ ((z ++ e ∷ []) ++ j)) ≡ (lin_opening ++ d ++ 32 ∷ []) ++ z ++ t ++ 41 ∷ []
regroup d z t e j q =
    ap (λ w. lin_opening ++ ((d ++ 32 ∷ []) ++ w)) (append_assoc z (e ∷ []) j ∙ ap (λ w. z ++ w) q)
    ∙ sym (append_assoc lin_opening (d ++ 32 ∷ []) (z ++ (t ++ 41 ∷ [])))
    ∙ ap (λ w. w ++ (z ++ (t ++ 41 ∷ []))) (sym (append_assoc lin_opening d (32 ∷ [])))
    ∙ sym (append_assoc (lin_opening ++ d ++ 32 ∷ []) z (t ++ 41 ∷ []))
    ∙ sym (append_assoc ((lin_opening ++ d ++ 32 ∷ []) ++ z) t (41 ∷ []))

den_text : (z : ℤ) (n : ℕ) → pos n ≡ z → decimal n ≡ signed_decimal z
den_text z n e = ap signed_decimal e

pub lin_spelled : (l : Lin) → lin_body.Fits l → lin_opening ++ lin_body.text l ≡ lin_text l
unfolding lin_body mapped both lin_text
lin_spelled l f =
    ap (λ w. lin_opening ++ (w ++ behind)) (den_spelled (unsigned_abs l.den, 32))
    ∙ ap (λ w. lin_opening ++ ((d ++ 32 ∷ []) ++ (w ++ more))) (integer_spelled (consts (unsigned_abs l.den) 0 zero_small) (consts (unsigned_abs l.den) 1 one_small) (const_positive (unsigned_abs l.den)) (l.constant, e))
    ∙ ap (λ w. lin_opening ++ ((d ++ 32 ∷ []) ++ ((integer_text l.constant ++ e ∷ []) ++ w))) (rest_spelled (nat_eq e 32) (unsigned_abs l.den) (unsigned_abs l.constant) l.parts f.0.1.1)
    ∙ regroup d (integer_text l.constant) (flat_map part_text l.parts) e (joined_parts l.parts) (tail_is l.parts)
    ∙ ap (λ w. (lin_opening ++ w ++ 32 ∷ []) ++ integer_text l.constant ++ flat_map part_text l.parts ++ 41 ∷ []) (den_text l.den (unsigned_abs l.den) (ap (λ x. x.den) f.1))
    ∙ ap (λ w. (lin_opening ++ signed_decimal l.den ++ 32 ∷ []) ++ w ++ flat_map part_text l.parts ++ 41 ∷ []) (whole_text l.constant)
  where
    e : ℕ
    e = close_by l.parts

    d : List ℕ
    d = decimal (unsigned_abs l.den)

    more : List ℕ
    more = (parts_by (nat_eq e 32) (unsigned_abs l.den) (unsigned_abs l.constant)).text l.parts

    behind : List ℕ
    behind = (const_code (unsigned_abs l.den)).text (l.constant, e) ++ more

-- the whole text of a form; its bracket closes it
abbrev pub opened : Code ((u : Unit {0}) × Lin)
opened = both (alone {A = Unit {0}} tt lin_opening) (λ u. lin_body)

unfoldable pub linear_form : Code Lin
linear_form = mapped (λ v. v.1) (λ l. (tt, l)) opened (λ v f. refl)

pub linear_form_spelled : (l : Lin) → linear_form.Fits l → linear_form.text l ≡ lin_text l
unfolding linear_form mapped both alone words
linear_form_spelled l f = lin_spelled l f.0.1

pub form_fits : (l : Lin) → lin_body.Fits l → linear_form.Fits l
unfolding linear_form mapped both alone words
form_fits l f = ((refl, f), refl)

pub fits_form : (l : Lin) → linear_form.Fits l → lin_body.Fits l
unfolding linear_form mapped both alone words
fits_form l f = f.0.1

-- ---- which forms have a text
pub record Stands (l : Lin) : Type 0 where
  pub positive : pos (unsigned_abs l.den) ≡ l.den
  pub some : 1 ≤ unsigned_abs l.den
  pub den_within : unsigned_abs l.den ≤ limit
  pub constant_within : unsigned_abs l.constant ≤ limit
  pub rise : Rise 0 l.parts
  pub lowest : IsTrue (is_lowest (unsigned_abs l.den) (unsigned_abs l.constant ∷ factor_sizes l.parts))

const_fits : (den : ℕ) (z : ℤ) (e : ℕ) → unsigned_abs z ≤ limit → IsTrue (const_ends den (unsigned_abs z) e) → (const_code den).Fits (z, e)
const_fits den (pos n) e h g = passing_fits (consts den 0 zero_small) (consts den 1 one_small) (const_positive den) (pos n) e (and_both (nat_le 0 n) (nat_le n limit) (le-leb 0 n (omega arith)) (le-leb n limit h), g)
const_fits den (negsuc n) e h g = passing_fits (consts den 0 zero_small) (consts den 1 one_small) (const_positive den) (negsuc n) e (and_both (nat_le 1 (suc n)) (nat_le (suc n) limit) (le-leb 1 (suc n) (omega arith)) (le-leb (suc n) limit h), g)

closes_so : (den n : ℕ) (ps : List Part) → IsTrue (is_lowest den (n ∷ factor_sizes ps)) → IsTrue (const_ends den n (close_by ps))
closes_so den n [] o = or_one (nat_eq 41 41 && is_lowest den (n ∷ [])) (nat_eq 41 32) o
closes_so den n (p ∷ ps) o = or_two (nat_eq 32 41 && is_lowest den (n ∷ [])) (nat_eq 32 32) refl

behind_fits : (den n : ℕ) (ps : List Part) → Rise 0 ps → IsTrue (is_lowest den (n ∷ factor_sizes ps)) → (parts_by (nat_eq (close_by ps) 32) den n).Fits ps
unfolding parts_by empty
behind_fits den n [] r o = refl
behind_fits den n (p ∷ ps) r o = parts_fit den (first_at n) p ps r o

pub lin_fits : (l : Lin) → Stands l → lin_body.Fits l
unfolding lin_body mapped both number checked machine number_machine
lin_fits l s = (
  (
    (and_both (nat_le 1 (unsigned_abs l.den)) (nat_le (unsigned_abs l.den) limit) (le-leb 1 (unsigned_abs l.den) s.some) (le-leb (unsigned_abs l.den) limit s.den_within), refl),
    (
      const_fits (unsigned_abs l.den) l.constant (close_by l.parts) s.constant_within (closes_so (unsigned_abs l.den) (unsigned_abs l.constant) l.parts s.lowest),
      behind_fits (unsigned_abs l.den) (unsigned_abs l.constant) l.parts s.rise s.lowest,
    ),
  ),
  (λ i. record { den = s.positive i; parts = l.parts; constant = l.constant }),
)

const_bound : (den : ℕ) (z : ℤ) (e : ℕ) → (const_code den).Fits (z, e) → unsigned_abs z ≤ limit
const_bound den (pos n) e f = let t = integer_passes (consts den 0 zero_small) (consts den 1 one_small) (const_positive den) (pos n) e f in leb-true n limit (and_two (nat_le 0 n) (nat_le n limit) t.0)
const_bound den (negsuc n) e f = let t = integer_passes (consts den 0 zero_small) (consts den 1 one_small) (const_positive den) (negsuc n) e f in leb-true (suc n) limit (and_two (nat_le 1 (suc n)) (nat_le (suc n) limit) t.0)

behind_stands : (den : ℕ) (z : ℤ) (ps : List Part) → (const_code den).Fits (z, close_by ps) → (parts_by (nat_eq (close_by ps) 32) den (unsigned_abs z)).Fits ps
    → Rise 0 ps × IsTrue (is_lowest den (unsigned_abs z ∷ factor_sizes ps))
unfolding parts_by
behind_stands den z [] f g = (tt, elim (const_closed den z 41 f) [ inl a ↦ a.1 | inr b ↦ absurd cc ])
behind_stands den z (p ∷ ps) f g = parts_stand den (first_at (unsigned_abs z)) p ps g

pub lin_stands : (l : Lin) → lin_body.Fits l → Stands l
unfolding lin_body mapped both
lin_stands l f =
    let d = den_closed (unsigned_abs l.den, 32) f.0.0 in
    let b = behind_stands (unsigned_abs l.den) l.constant l.parts f.0.1.0 f.0.1.1 in
    record {
      positive = ap (λ x. x.den) f.1;
      some = d.0;
      den_within = d.1;
      constant_within = const_bound (unsigned_abs l.den) l.constant (close_by l.parts) f.0.1.0;
      rise = b.0;
      lowest = b.1;
    }
