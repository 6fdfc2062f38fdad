-- The greatest common divisor as a function, and the normal forms that it makes.
use Rattle.std.specs.Prelude.{ℕ, ℤ, pos, ◌≡◌, ◌≢◌, ◌<◌, ◌≤◌, ◌^◌, ◌%◌, ◌*ℤ◌, ◌+ℤ◌, ◌<ℤ◌, ◌≤ℤ◌, Bool, true, false, cond, nat_eq, List, [], ◌∷◌, map, unsigned_abs}
use Rattle.std.specs.Int.{IsGcd}
use Rattle.std.specs.Int.RustNames.{int_div}
use Rattle.std.proofs.Common.{arith, refl, sym, ap, ◌∙◌, subst, zero, suc}
use Rattle.std.proofs.lemmas.Nat.Gcd.{dvd_of_mod-eq-zero, mod-eq-zero_of_dvd, le_of_dvd}
use borrow.Author.Differences.{ints}
use lib.IntN.{ℤ_discrete}
use Rattle.ae_base.specs.Decided.{pick}
use Rattle.std.proofs.lemmas.Bool.{eq-eqb, eqb-true, and_from, and_parts}
use Rattle.ae_base.proofs.Tests.{not_both}
use Rattle.ae_base.proofs.Integers.{size_back, size_positive, not_negative}
use Rattle.ae_num.specs.declared.forms.Part.{Part}
use Rattle.ae_num.specs.declared.forms.Lin.{Lin}
use Rattle.ae_num.specs.declared.sums.Combination.TheVariants.{Sum, Multiple}
use Rattle.ae_num.specs.Forms.{factor_of, DividesAll, IsCommonDivisor, sizes, divides_each, greatest_divisor, divided, divided_part, lowest, meaning, SameMeaning, IsNormal, parts_of, keys_of, sum_of, multiple_of}
use Rattle.ae_num.specs.Inner.Pairs.{pair_at, combined}
use Rattle.ae_num.specs.Inner.Reduction.{whole_of}
use Rattle.ae_num.proofs.NormalLaws.{positive_divisor, quotient_normal, quotient_reduced}
use Rattle.ae_num.proofs.ReductionLaws.{start_gcd, common_one, read_back, quotient_read, fits_in}
use Rattle.ae_num.proofs.MeaningLaws.{factor_meaning, ratio_zero, ratio_scaled}
use Rattle.ae_math.specs.Fractions.{ratio}
use Rattle.ae_math.specs.Forms.{number}
use Rattle.ae_math.proofs.Divisors.{divided as times_back, gcd_exists}
use native.Mathlib.Nat.{one-dvd}
use mir.Syntax.{w128}
use mir.Val.{of_z, to_z}

each_divided : (d : ℕ) (ns : List ℕ) → DividesAll d ns → divides_each d ns ≡ true
each_divided d [] h = refl
each_divided d (n ∷ ns) h = and_from (nat_eq (n % d) 0) (divides_each d ns) (eq-eqb (n % d) 0 (mod-eq-zero_of_dvd d h.0)) (each_divided d ns h.1)

all_divided : (d : ℕ) (ns : List ℕ) → divides_each d ns ≡ true → DividesAll d ns
all_divided d [] h = tt
all_divided d (n ∷ ns) h =
    let b = and_parts (nat_eq (n % d) 0) (divides_each d ns) h in
    (dvd_of_mod-eq-zero d (eqb-true (n % d) 0 b.0), all_divided d ns b.1)

below_other : (n g : ℕ) → g ≤ suc n → g ≢ suc n → g ≤ n
below_other n g h other = omega arith

-- the search from n down stops at the greatest number that divides all
greatest_is : (n g : ℕ) (ns : List ℕ) → DividesAll g ns → ((d : ℕ) → DividesAll d ns → d ≤ g) → 0 < g → g ≤ n → greatest_divisor n ns ≡ g
unfolding greatest_divisor
greatest_is zero g ns c m p h = absurd (omega arith)
greatest_is (suc n) g ns c m p h = by_test (greatest_is n g ns c m p) (divides_each (suc n) ns) refl
  where
    by_test : (g ≤ n → greatest_divisor n ns ≡ g) → (b : Bool) → divides_each (suc n) ns ≡ b → cond b (suc n) (greatest_divisor n ns) ≡ g
    by_test ih true e = let l = m (suc n) (all_divided (suc n) ns e) in omega arith
    by_test ih false e = ih (below_other n g h (λ s. not_both (divides_each (suc n) ns) (each_divided (suc n) ns (subst (λ d. DividesAll d ns) s c)) e))

pub greatest_common : (n g : ℕ) (ns : List ℕ) → 0 < n → 0 < g → IsCommonDivisor (n ∷ ns) g → greatest_divisor n (n ∷ ns) ≡ g
greatest_common n g ns p s c = greatest_is n g (n ∷ ns) c.0 (λ d h. le_of_dvd s (c.1 d h)) s (le_of_dvd p (c.0).0)

-- what is divided by the common divisor is lowest
pub quotient_lowest : (w q : Lin) (x y : ℤ) → y ≡ x → pos 0 ≤ℤ x → pos 0 <ℤ w.den → IsCommonDivisor (sizes w.den w.parts w.constant) (unsigned_abs x) → q ≡ divided y w → q ≡ lowest w
quotient_lowest w q x y e h p c f =
    let some = size_positive x (positive_divisor x w.den h p (c.0).0) in
    f ∙ ap (λ z. divided z w) (e ∙ sym (size_back x h) ∙ ap pos (sym (greatest_common (unsigned_abs w.den) (unsigned_abs x) _ (size_positive w.den p) some c)))

-- ---- the forms that the rules make are those of sums and multiples
made_parts : (f : ℤ → ℤ → ℤ) (ps qs : List Part) (ys : List ℕ) → combined f (map (pair_at ps qs) ys) ≡ parts_of (λ y. f (factor_of ps y) (factor_of qs y)) ys
made_parts f ps qs [] = refl
made_parts f ps qs (y ∷ ys) =
    let z = f (factor_of ps y) (factor_of qs y) in
    ap (λ t. pick (ℤ_discrete z (pos 0)) t (record { key = y; factor = z } ∷ t)) (made_parts f ps qs ys)

pub sum_made : (p q : Lin) → lowest (whole_of (Sum q.den p.den) p q) ≡ sum_of p q
sum_made p q =
    ap (λ t. lowest (record { den = p.den *ℤ q.den; parts = t; constant = p.constant *ℤ q.den +ℤ q.constant *ℤ p.den })) (made_parts (λ a b. a *ℤ q.den +ℤ b *ℤ p.den) p.parts q.parts (keys_of p.parts q.parts))

pub multiple_made : (top bottom : ℤ) (p : Lin) → lowest (whole_of (Multiple top) p (record { den = bottom; parts = []; constant = pos 0 })) ≡ multiple_of top bottom p
multiple_made top bottom p =
    ap (λ t. lowest (record { den = p.den *ℤ bottom; parts = t; constant = p.constant *ℤ top })) (made_parts (λ a b. a *ℤ top) p.parts [] (keys_of p.parts []))

-- ---- a number
abbrev pub number_form : ℤ → ℤ → Lin
number_form top bottom = record { den = bottom; parts = []; constant = top }

-- what stands where the two numbers of a fraction are divided by their greatest common divisor, read back from their bits
module _ (top bottom r : ℤ) (positive : pos 0 <ℤ bottom) (top_small : unsigned_abs top < 2 ^ 127) (bottom_small : unsigned_abs bottom < 2 ^ 127) (sign : pos 0 ≤ℤ r) (small : unsigned_abs r < 2 ^ 127)
    (gcd : IsGcd (unsigned_abs (to_z w128 (of_z w128 bottom))) (unsigned_abs (to_z w128 (of_z w128 top))) (unsigned_abs r)) where
  common : IsCommonDivisor (sizes bottom [] top) (unsigned_abs r)
  common = start_gcd bottom top r [] (unsigned_abs r) bottom_small top_small small gcd (subst (λ z. IsCommonDivisor (unsigned_abs z ∷ []) (unsigned_abs r)) (sym (read_back r small)) (common_one (unsigned_abs r)))

  pub divisor_some : pos 0 <ℤ r
  divisor_some = positive_divisor r bottom sign positive (common.0).0

  module _ (ps : List Part) (none : ps ≡ []) where
    abbrev l : Lin
    l = record { den = to_z w128 (of_z w128 (int_div (to_z w128 (of_z w128 bottom)) (to_z w128 (of_z w128 r)))); parts = ps; constant = to_z w128 (of_z w128 (int_div (to_z w128 (of_z w128 top)) (to_z w128 (of_z w128 r)))) }

    read : l ≡ divided r (number_form top bottom)
    read = λ i. record { den = quotient_read bottom r (fits_in bottom bottom_small) (fits_in r small) divisor_some i; parts = none i; constant = quotient_read top r (fits_in top top_small) (fits_in r small) divisor_some i }

    pub fraction_lowest : l ≡ lowest (number_form top bottom)
    fraction_lowest = quotient_lowest (number_form top bottom) l r r refl sign positive common read

    pub fraction_normal : IsNormal l
    fraction_normal = quotient_normal (number_form top bottom) l r r refl sign positive tt tt (bottom_small, (top_small, tt)) common read

    pub fraction_means : SameMeaning (meaning l) (number (ratio top bottom))
    fraction_means =
        let w = quotient_reduced (number_form top bottom) l r r refl sign positive common read in
        record {
          factors = λ k. factor_meaning l k fraction_normal.rising ∙ ap (λ (f : Lin). ratio (factor_of f.parts k) l.den) read ∙ ratio_zero l.den;
          constants = ratio_scaled l.constant l.den top bottom (pos w.divisor) fraction_normal.positive positive w.constants w.dens;
        }

-- ---- a form that is lowest already
by_one : (z : ℤ) → int_div z (pos 1) ≡ z
by_one z = let e = times_back z 1 (omega arith) (one-dvd (unsigned_abs z)) in omega (arith, ints)

parts_by_one : (ps : List Part) → map (divided_part (pos 1)) ps ≡ ps
parts_by_one [] = refl
parts_by_one (p ∷ ps) = λ i. record { key = p.key; factor = by_one p.factor i } ∷ parts_by_one ps i

pub lowest_same : (l : Lin) → pos 0 <ℤ l.den → IsCommonDivisor (sizes l.den l.parts l.constant) 1 → lowest l ≡ l
lowest_same l p c =
    ap (λ d. divided (pos d) l) (greatest_common (unsigned_abs l.den) 1 _ (size_positive l.den p) (omega arith) c)
    ∙ (λ i. record { den = by_one l.den i; parts = parts_by_one l.parts i; constant = by_one l.constant i })

pub lowest_normal : (l : Lin) → IsNormal l → lowest l ≡ l
lowest_normal l n = lowest_same l n.positive n.lowest

-- ---- a number in lowest terms
module _ (top bottom : ℤ) (positive : pos 0 <ℤ bottom) where
  common_of : (g : ℕ) × IsCommonDivisor (sizes bottom [] top) g
  common_of = let r = gcd_exists (unsigned_abs bottom) (unsigned_abs top) in (r.0, (((r.1).0, ((r.1).1, tt)), λ x y. (r.1).2 x y.0 (y.1).0))

  lowest_divided : lowest (number_form top bottom) ≡ divided (pos common_of.0) (number_form top bottom)
  lowest_divided = sym (quotient_lowest (number_form top bottom) (divided (pos common_of.0) (number_form top bottom)) (pos common_of.0) (pos common_of.0) refl (not_negative common_of.0) positive common_of.1 refl)

  pub number_normal : unsigned_abs top < 2 ^ 127 → unsigned_abs bottom < 2 ^ 127 → IsNormal (lowest (number_form top bottom))
  number_normal t b = quotient_normal (number_form top bottom) (lowest (number_form top bottom)) (pos common_of.0) (pos common_of.0) refl (not_negative common_of.0) positive tt tt (b, (t, tt)) common_of.1 lowest_divided

  pub number_value : unsigned_abs top < 2 ^ 127 → unsigned_abs bottom < 2 ^ 127 → ratio (lowest (number_form top bottom)).constant (lowest (number_form top bottom)).den ≡ ratio top bottom
  number_value t b =
      let r = quotient_reduced (number_form top bottom) (lowest (number_form top bottom)) (pos common_of.0) (pos common_of.0) refl (not_negative common_of.0) positive common_of.1 lowest_divided in
      ratio_scaled (lowest (number_form top bottom)).constant (lowest (number_form top bottom)).den top bottom (pos r.divisor) (number_normal t b).positive positive r.constants r.dens
