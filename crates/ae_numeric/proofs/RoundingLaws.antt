-- What the normal forms of two gaps say of the gaps: common divisors of the factors, and quotients that are rounded down.
use Rattle.std.specs.Prelude.{ℕ, zero, suc, ℤ, pos, negsuc, neg_ℤ, ◌≡◌, ◌≢◌, ◌<◌, ◌≤◌, ◌*ℤ◌, ◌+ℤ◌, ◌<ℤ◌, ◌≤ℤ◌, cond, Bool, true, false, not, IsTrue, nat_eq, List, [], ◌∷◌, map, length, get_or, unsigned_abs}
use Rattle.std.specs.List.{AllByRecursion}
use Rattle.std.specs.Int.{◌∣◌}
use Rattle.std.specs.Int.RustNames.{int_div}
use Rattle.std.proofs.Common.{inl, inr, arith, refl, sym, ap, ◌∙◌, subst}
use Rattle.std.proofs.lemmas.Nat.Gcd.{dvd_refl, dvd_trans, dvd_antisymm}
use native.Mathlib.Nat.{dvd-zero, zero-dvd, dvd-one, dvd-mul_left}
use borrow.Author.Differences.{ints}
use lib.IntN.{one, *ℤ-one, *ℤ-zero, zero-*ℤ, *ℤ_comm}
use std.Quotient.{/_rec}
use Rattle.ae_base.specs.Decided.{pick}
use Rattle.ae_base.proofs.Decided.{pick_yes, pick_no}
use Rattle.ae_math.specs.Inner.Integers.{ring, mul_one_z}
use Rattle.ae_math.specs.Fractions.{ℚ, zero_ℚ, one_ℚ, neg_ℚ, ◌+ℚ◌, ◌*ℚ◌, frac, ratio, whole}
use Rattle.ae_math.specs.Inner.Respected.{cancel}
use Rattle.ae_math.specs.Forms.{factor_in, minus}
use Rattle.ae_math.proofs.FractionLaws.{field, same_frac, frac_plus, frac_times, zero_frac, add_assoc_q, add_zero_q, neg_zero_q}
use Rattle.ae_math.proofs.FormLaws.{factor_in-append, factor_in-scale}
use Rattle.std.proofs.lemmas.Int.{unsigned_abs-mul}
use Rattle.ae_math.proofs.Divisors.{divided, gcd_exists}
use Rattle.ae_num.specs.declared.forms.Part.{Part}
use Rattle.ae_num.specs.declared.forms.Lin.{Lin}
use Rattle.ae_num.specs.Forms.{factor_of, IsRising, IsNormal, DividesAll, IsCommonDivisor, AllAbove, sizes}
use Rattle.ae_num.proofs.PairLaws.{absent, factor_head}
use Rattle.ae_base.proofs.Tests.{nat_eq_below, false_true}
use Rattle.ae_base.proofs.Integers.{size_zero, size_neg}
use Rattle.std.proofs.lemmas.Bool.{eq-eqb, ne_eqb, cases_lt}
use Rattle.ae_num.proofs.UniqueLaws.{all_divide, same_parts}
use Rattle.ae_num.proofs.MeaningLaws.{ratio_zero, ratio_times, product_positive}
use Rattle.ae_core.specs.Decided.{Term_discrete}
use Rattle.ae_rules.specs.Linear.{Linear, factor_of as term_factor}
use Rattle.ae_rules.specs.Lines.{slack, AreMultiples, IsFloor}
use Rattle.ae_core.specs.declared.terms.Term.{Term, Bound}
use Rattle.ae_core.specs.declared.proofs.Relation.{Relation}
use Rattle.ae_core.specs.declared.proofs.Relation.TheVariants.{Equal, AtMost, Below}
use Rattle.ae_numeric.specs.Stated.{place_of}
use Rattle.ae_numeric.specs.Computing.{AreDistinct, IsFormOf}
use Rattle.ae_rules.specs.Derivations.{HasNoSolution}
use Rattle.ae_numeric.specs.Inner.Rounding.{IsRounded, lowered, IsQuotient, IsApart, factor_sizes, times_part}

-- ---- numbers
positive_one : (z : ℤ) → pos 0 <ℤ z → unsigned_abs z ≡ 1 → z ≡ pos 1
positive_one (pos n) p e = ap pos e
positive_one (negsuc n) p e = absurd (omega (arith, ints))

-- a number whose size is a multiple is one
multiple_of_size : (a : ℤ) (d : ℕ) → d ∣ unsigned_abs a → (z : ℤ) × (a ≡ z *ℤ pos d)
multiple_of_size a zero h = (pos 0, size_zero a (zero-dvd.0 h))
multiple_of_size a (suc d) h = (int_div a (pos (suc d)), sym (divided a (suc d) (omega arith) h))

divides_multiple : (a z : ℤ) (d : ℕ) → a ≡ z *ℤ pos d → d ∣ unsigned_abs a
divides_multiple a z d e = subst (λ n. d ∣ n) (sym (ap unsigned_abs e ∙ unsigned_abs-mul z (pos d))) (dvd-mul_left d (unsigned_abs z))

size_divides : (a w den : ℤ) → a ≡ w *ℤ den → unsigned_abs den ∣ unsigned_abs a
size_divides a w den e = subst (λ n. unsigned_abs den ∣ n) (sym (ap unsigned_abs e ∙ unsigned_abs-mul w den)) (dvd-mul_left (unsigned_abs den) (unsigned_abs w))

-- any numbers have a greatest common divisor
common_exists : (ns : List ℕ) → (g : ℕ) × IsCommonDivisor ns g
common_exists [] = (0, (tt, λ d h. dvd-zero d))
common_exists (n ∷ ns) =
    let r = common_exists ns in
    let s = gcd_exists n r.0 in
    (s.0, ((s.1.0, all_below s.0 r.0 ns s.1.1 r.1.0), λ d h. s.1.2 d h.0 (r.1.1 d h.1)))
  where
    all_below : (g h : ℕ) (ns : List ℕ) → g ∣ h → DividesAll h ns → DividesAll g ns
    all_below g h [] d a = tt
    all_below g h (n ∷ ns) d a = (dvd_trans g d a.0, all_below g h ns d a.1)

-- ---- fractions
ratio_whole : (a d w : ℤ) → pos 0 <ℤ d → ratio a d ≡ whole w → a ≡ w *ℤ d
unfolding one
ratio_whole a (pos zero) w p e = absurd (omega (arith, ints))
ratio_whole a (negsuc n) w p e = absurd (omega (arith, ints))
ratio_whole a (pos (suc n)) w p e = sym (*ℤ-one a) ∙ same_frac a w n 0 e

same_whole : (a b : ℤ) → whole a ≡ whole b → a ≡ b
same_whole a b e = cancel a b 0 (same_frac a b 0 0 e)

sum_whole : (a b : ℤ) → whole a +ℚ whole b ≡ whole (a +ℤ b)
sum_whole a b = frac_plus a b 0 0 ∙ ap whole (omega (arith, ints))

whole_zero : (z : ℤ) → whole (z *ℤ pos 0) ≡ zero_ℚ
unfolding zero_ℚ
whole_zero z = ap whole (*ℤ-zero z)

times_whole : (a b : ℤ) → whole a *ℚ whole b ≡ whole (a *ℤ b)
times_whole a b = frac_times a b 0 0

ratio_neg : (a d : ℤ) → neg_ℚ (ratio a d) ≡ ratio (neg_ℤ a) d
unfolding neg_ℚ frac /_rec
ratio_neg a (pos zero) = neg_zero_q
ratio_neg a (negsuc n) = neg_zero_q
ratio_neg a (pos (suc n)) = refl

-- ---- keys and their terms
pub place_get : (ks : List Term) (k : ℕ) (d : Term) → k < length ks → AreDistinct ks → place_of ks (get_or ks k d) ≡ k
place_get [] k d h a = absurd (omega arith)
place_get (x ∷ ks) zero d h a = pick_yes (Term_discrete x x) zero (suc (place_of ks x)) refl
place_get (x ∷ ks) (suc k) d h a =
    pick_no (Term_discrete x (get_or ks k d)) zero (suc (place_of ks (get_or ks k d))) (a zero (suc k) d (omega arith) h)
    ∙ ap suc (place_get ks k d (omega arith) (λ i j d lt within. a (suc i) (suc j) d (omega arith) (omega arith)))

get_place : (ks : List Term) (u d : Term) → place_of ks u < length ks → get_or ks (place_of ks u) d ≡ u
get_place [] u d h = absurd (omega arith)
get_place (x ∷ ks) u d h =
    elim (Term_discrete x u) as (λ e. pick e zero (suc (place_of ks u)) < suc (length ks) → get_or (x ∷ ks) (pick e zero (suc (place_of ks u))) d ≡ u) [
      | yes e ↦ λ h. e
      | no n ↦ λ h. get_place ks u d (omega arith)
    ] h

abbrev Named : List Term → List Part → ℤ → List (Term × ℚ)
Named ks ps d = map (λ p. (get_or ks p.key (Bound 0), ratio p.factor d)) ps

-- the factor of a term is that of its key
pub placed_factor : (ks : List Term) (ps : List Part) (d : ℤ) (u : Term) → AreDistinct ks → AllByRecursion (λ p. p.key < length ks) ps → IsRising ps → factor_in Term_discrete (Named ks ps d) u ≡ ratio (factor_of ps (place_of ks u)) d
placed_factor ks [] d u a h r = sym (ratio_zero d)
placed_factor ks (p ∷ ps) d u a h r = by_test (Term_discrete (get_or ks p.key (Bound 0)) u) (placed_factor ks ps d u a h.1 r.1)
  where
    by_test : (t : Dec (get_or ks p.key (Bound 0) ≡ u)) → factor_in Term_discrete (Named ks ps d) u ≡ ratio (factor_of ps (place_of ks u)) d
        → pick t (ratio p.factor d +ℚ factor_in Term_discrete (Named ks ps d) u) (factor_in Term_discrete (Named ks ps d) u) ≡ ratio (cond (nat_eq p.key (place_of ks u)) p.factor (factor_of ps (place_of ks u))) d
    by_test (yes e) ih =
        let at : place_of ks u ≡ p.key = ap (place_of ks) (sym e) ∙ place_get ks p.key (Bound 0) h.0 a in
        ap (λ x. ratio p.factor d +ℚ x) (ih ∙ ap (λ z. ratio z d) (ap (factor_of ps) at ∙ absent p.key ps r.0) ∙ ratio_zero d) ∙ add_zero_q (ratio p.factor d)
        ∙ ap (λ b. ratio (cond b p.factor (factor_of ps (place_of ks u))) d) (sym (eq-eqb p.key (place_of ks u) (sym at)))
    by_test (no n) ih =
        let apart : ¬ (p.key ≡ place_of ks u) = λ e. n (ap (λ k. get_or ks k (Bound 0)) e ∙ get_place ks u (Bound 0) (subst (λ k. k < length ks) e h.0)) in
        ih ∙ ap (λ b. ratio (cond b p.factor (factor_of ps (place_of ks u))) d) (sym (ne_eqb p.key (place_of ks u) apart))

pub no_key : (n : ℕ) (ps : List Part) (k : ℕ) → AllByRecursion (λ p. p.key < n) ps → n ≤ k → factor_of ps k ≡ pos 0
no_key n [] k h l = refl
no_key n (p ∷ ps) k h l = let below : p.key < k = let here = h.0 in omega arith in ap (λ b. cond b p.factor (factor_of ps k)) (nat_eq_below p.key k below) ∙ no_key n ps k h.1 l

-- the numbers of a normal form, read as those of the linear form that it means: each term has a key, and each key up to a bound a term
pub record Reading (f : Lin) (m : Linear) : Type 0 where
  pub bound : ℕ
  pub place : Term → ℕ
  pub term : (k : ℕ) → k < bound → (u : Term) × (place u ≡ k)
  pub beyond : (k : ℕ) → bound ≤ k → factor_of f.parts k ≡ pos 0
  pub at : ℕ → ℤ
  pub size : (k : ℕ) → unsigned_abs (at k) ≡ unsigned_abs (factor_of f.parts k)
  pub factors : (u : Term) → term_factor m u ≡ ratio (at (place u)) f.den
  pub level : ℤ
  pub level_size : unsigned_abs level ≡ unsigned_abs f.constant
  pub constant : m.constant ≡ ratio level f.den

abbrev pub reading : (ks : List Term) (f : Lin) (m : Linear) → IsFormOf ks f m → Reading f m
reading ks f m i = record {
  bound = length ks;
  place = place_of ks;
  term = λ k h. (get_or ks k (Bound 0), place_get ks k (Bound 0) h i.distinct);
  beyond = λ k l. no_key (length ks) f.parts k i.keys l;
  at = factor_of f.parts;
  size = λ k. refl;
  factors = λ u. sym (i.means.factors u) ∙ placed_factor ks f.parts f.den u i.distinct i.keys i.normal.rising;
  level = f.constant;
  level_size = refl;
  constant = sym i.means.constants;
}

turned : (a b : ℚ) → b +ℚ neg_ℚ one_ℚ *ℚ a ≡ neg_ℚ (a +ℚ neg_ℚ one_ℚ *ℚ b)
turned a b = simp field

-- a difference read from the one the other way round
turned_factor : (a b : Linear) (u : Term) → term_factor (minus b a) u ≡ neg_ℚ (term_factor (minus a b) u)
turned_factor a b u =
    factor_in-append Term_discrete b.parts _ u ∙ ap (λ x. term_factor b u +ℚ x) (factor_in-scale Term_discrete (neg_ℚ one_ℚ) a.parts u)
    ∙ turned (term_factor a u) (term_factor b u)
    ∙ ap neg_ℚ (sym (factor_in-append Term_discrete a.parts _ u ∙ ap (λ x. term_factor a u +ℚ x) (factor_in-scale Term_discrete (neg_ℚ one_ℚ) b.parts u)))

pub turned_reading : (ks : List Term) (f : Lin) (a b : Linear) → IsFormOf ks f (minus a b) → Reading f (minus b a)
turned_reading ks f a b i =
    let r = reading ks f (minus a b) i in
    record {
      bound = length ks;
      place = place_of ks;
      term = r.term;
      beyond = r.beyond;
      at = λ k. neg_ℤ (factor_of f.parts k);
      size = λ k. size_neg (factor_of f.parts k);
      factors = λ u. turned_factor a b u ∙ ap neg_ℚ (r.factors u) ∙ ratio_neg (factor_of f.parts (place_of ks u)) f.den;
      level = neg_ℤ f.constant;
      level_size = size_neg f.constant;
      constant = turned a.constant b.constant ∙ ap neg_ℚ r.constant ∙ ratio_neg f.constant f.den;
    }

-- ---- divisors of a normal form
divides_key : (d : ℕ) (ps : List Part) → DividesAll d (factor_sizes ps) → (k : ℕ) → d ∣ unsigned_abs (factor_of ps k)
divides_key d [] h k = dvd-zero d
divides_key d (p ∷ ps) h k = elim (nat_eq p.key k) as (λ b. d ∣ unsigned_abs (cond b p.factor (factor_of ps k))) [ true ↦ h.0 | false ↦ divides_key d ps h.1 k ]

first_key : (ps : List Part) → AllByRecursion (λ p. p.factor ≢ pos 0) ps → ps ≢ [] → (k : ℕ) × (factor_of ps k ≢ pos 0)
first_key [] n h = absurd (h refl)
first_key (p ∷ ps) n h = (p.key, λ e. n.0 (sym (factor_head p ps) ∙ e))

-- numbers that the denominator divides are over the denominator 1
den_one : (f : Lin) → IsNormal f → ((k : ℕ) → unsigned_abs f.den ∣ unsigned_abs (factor_of f.parts k)) → unsigned_abs f.den ∣ unsigned_abs f.constant → f.den ≡ pos 1
den_one f n h c =
    let divides : DividesAll (unsigned_abs f.den) (sizes f.den f.parts f.constant) = (dvd_refl (unsigned_abs f.den), (c, all_divide (unsigned_abs f.den) f.parts n.rising h)) in
    positive_one f.den n.positive (dvd-one.0 (n.lowest.1 (unsigned_abs f.den) divides))

module _ (f : Lin) (m : Linear) (n : IsNormal f) (r : Reading f m) where
  -- what divides each number of a term divides each factor
  by_terms : (d : ℕ) → ((u : Term) → d ∣ unsigned_abs (r.at (r.place u))) → (k : ℕ) → d ∣ unsigned_abs (factor_of f.parts k)
  by_terms d h k = elim (cases_lt k r.bound) [ inl l ↦ inside l | inr l ↦ subst (λ z. d ∣ unsigned_abs z) (sym (r.beyond k l)) (dvd-zero d) ]
    where
      inside : k < r.bound → d ∣ unsigned_abs (factor_of f.parts k)
      inside l = let t = r.term k l in subst (λ s. d ∣ s) (r.size k) (subst (λ j. d ∣ unsigned_abs (r.at j)) t.1 (h t.0))

  whole_den : (d : ℕ) → AreMultiples m d → (c : ℤ) → m.constant ≡ whole c → f.den ≡ pos 1
  whole_den d a c e =
      den_one f n
      (by_terms (unsigned_abs f.den) (λ u. let w = a u in size_divides (r.at (r.place u)) (w.0 *ℤ pos d) f.den (ratio_whole (r.at (r.place u)) f.den (w.0 *ℤ pos d) n.positive (sym (r.factors u) ∙ w.1))))
      (subst (λ s. unsigned_abs f.den ∣ s) r.level_size (size_divides r.level c f.den (ratio_whole r.level f.den c n.positive (sym r.constant ∙ e))))

  module _ (one : f.den ≡ pos 1) where
    pub whole_factor : (u : Term) → term_factor m u ≡ whole (r.at (r.place u))
    whole_factor u = r.factors u ∙ ap (ratio (r.at (r.place u))) one

    pub whole_level : m.constant ≡ whole r.level
    whole_level = r.constant ∙ ap (ratio r.level) one

    pub multiples_divide : (d : ℕ) → AreMultiples m d → (k : ℕ) → d ∣ unsigned_abs (factor_of f.parts k)
    multiples_divide d a = by_terms d (λ u. let w = a u in divides_multiple (r.at (r.place u)) w.0 d (same_whole (r.at (r.place u)) (w.0 *ℤ pos d) (sym (whole_factor u) ∙ w.1)))

    pub divide_multiples : (d : ℕ) → DividesAll d (factor_sizes f.parts) → AreMultiples m d
    divide_multiples d h u =
        let k = r.place u in
        let w = multiple_of_size (r.at k) d (subst (λ s. d ∣ s) (sym (r.size k)) (divides_key d f.parts h k)) in
        (w.0, whole_factor u ∙ ap whole w.1)

    pub all_multiples : (d : ℕ) → AreMultiples m d → DividesAll d (factor_sizes f.parts)
    all_multiples d a = all_divide d f.parts n.rising (multiples_divide d a)

    pub occurs_there : f.parts ≢ [] → (u : Term) × (term_factor m u ≢ zero_ℚ)
    occurs_there h =
        let p = first_key f.parts n.nonzero h in
        elim (cases_lt p.0 r.bound) [ inl l ↦ inside p.0 p.1 l | inr l ↦ absurd (p.1 (r.beyond p.0 l)) ]
      where
        inside : (k : ℕ) → factor_of f.parts k ≢ pos 0 → k < r.bound → (u : Term) × (term_factor m u ≢ zero_ℚ)
        inside k ne l =
            let t = r.term k l in
            (t.0, λ e. ne (size_zero (factor_of f.parts k) (sym (r.size k) ∙ ap (λ j. unsigned_abs (r.at j)) (sym t.1) ∙ ap unsigned_abs (zero_frac (r.at (r.place t.0)) (sym (whole_factor t.0) ∙ e)))))

  pub occurs_here : (u : Term) → term_factor m u ≢ zero_ℚ → f.parts ≢ []
  occurs_here u ne e =
      let k = r.place u in
      ne (r.factors u ∙ ap (λ z. ratio z f.den) (size_zero (r.at k) (r.size k ∙ ap (λ (ps : List Part). unsigned_abs (factor_of ps k)) e)) ∙ ratio_zero f.den)

  -- ---- an equation without a solution
  pub unsolvable_apart : HasNoSolution m → IsApart f
  unsolvable_apart s =
      let one = whole_den s.divisor s.divides s.constant s.is in
      let common = common_exists (factor_sizes f.parts) in
      record {
        divisor = common.0;
        occurs = occurs_here s.occurs.0 s.occurs.1;
        den = one;
        common = common.1;
        apart = λ d.
            let below : s.divisor ∣ unsigned_abs r.level = subst (λ k. s.divisor ∣ k) (sym r.level_size) (dvd_trans s.divisor (common.1.1 s.divisor (all_multiples one s.divisor s.divides)) d) in
            let w = multiple_of_size r.level s.divisor below in
            s.not_divided w.0 (same_whole s.constant r.level (sym s.is ∙ whole_level one) ∙ w.1);
      }

  pub apart_unsolvable : IsApart f → HasNoSolution m
  apart_unsolvable a = record {
    occurs = occurs_there a.den a.occurs;
    divisor = a.divisor;
    divides = divide_multiples a.den a.divisor a.common.0;
    constant = r.level;
    is = whole_level a.den;
    not_divided = λ z e. a.apart (subst (λ k. a.divisor ∣ k) r.level_size (divides_multiple r.level z a.divisor e));
  }

-- ---- the gap of a strict inequality, less 1
lowered_factor : (rel : Relation) (m : Linear) (u : Term) → term_factor (lowered rel m) u ≡ term_factor m u
lowered_factor Equal m u = refl
lowered_factor AtMost m u = refl
lowered_factor Below m u = factor_in-append Term_discrete m.parts [] u ∙ add_zero_q (term_factor m u)

lowered_constant : (rel : Relation) (m : Linear) (c : ℤ) → m.constant ≡ whole c → (lowered rel m).constant ≡ whole (slack rel c)
lowered_constant Equal m c e = e
lowered_constant AtMost m c e = e
lowered_constant Below m c e = ap (λ x. x +ℚ whole (neg_ℤ (pos 1))) e ∙ sum_whole c (neg_ℤ (pos 1)) ∙ ap whole (omega (arith, ints))

no_change : whole (neg_ℤ (pos 1)) +ℚ whole (pos 1) ≡ zero_ℚ
unfolding zero_ℚ
no_change = sum_whole (neg_ℤ (pos 1)) (pos 1)

raised_constant : (rel : Relation) (m : Linear) (k : ℤ) → (lowered rel m).constant ≡ whole k → (c : ℤ) × (m.constant ≡ whole c) × (slack rel c ≡ k)
raised_constant Equal m k e = (k, e, refl)
raised_constant AtMost m k e = (k, e, refl)
raised_constant Below m k e = (
  k +ℤ pos 1,
  sym (add_zero_q m.constant) ∙ ap (λ x. m.constant +ℚ x) (sym no_change) ∙ sym (add_assoc_q m.constant (whole (neg_ℤ (pos 1))) (whole (pos 1))) ∙ ap (λ x. x +ℚ whole (pos 1)) e
      ∙ sum_whole k (pos 1),
  omega (arith, ints),
)

lowered_multiples : (rel : Relation) (m : Linear) (d : ℕ) → AreMultiples m d → AreMultiples (lowered rel m) d
lowered_multiples rel m d a u = let w = a u in (w.0, lowered_factor rel m u ∙ w.1)

raised_multiples : (rel : Relation) (m : Linear) (d : ℕ) → AreMultiples (lowered rel m) d → AreMultiples m d
raised_multiples rel m d a u = let w = a u in (w.0, sym (lowered_factor rel m u) ∙ w.1)

-- ---- parts that are multiplied
above_times : (g : ℤ) (k : ℕ) (ps : List Part) → AllAbove k ps → AllAbove k (map (times_part g) ps)
above_times g k [] a = tt
above_times g k (p ∷ ps) a = (a.0, above_times g k ps a.1)

rising_times : (g : ℤ) (ps : List Part) → IsRising ps → IsRising (map (times_part g) ps)
rising_times g [] r = tt
rising_times g (p ∷ ps) r = (above_times g p.key ps r.0, rising_times g ps r.1)

nonzero_times : (n : ℕ) (ps : List Part) → AllByRecursion (λ p. p.factor ≢ pos 0) ps → AllByRecursion (λ p. p.factor ≢ pos 0) (map (times_part (pos (suc n))) ps)
nonzero_times n [] z = tt
nonzero_times n (p ∷ ps) z = ((λ e. z.0 (cancel p.factor (pos 0) n (e ∙ sym (zero-*ℤ (pos (suc n)))))), nonzero_times n ps z.1)

factor_times : (g : ℤ) (ps : List Part) (k : ℕ) → factor_of (map (times_part g) ps) k ≡ factor_of ps k *ℤ g
factor_times g [] k = sym (zero-*ℤ g)
factor_times g (p ∷ ps) k =
    elim (nat_eq p.key k) as (λ b. cond b (p.factor *ℤ g) (factor_of (map (times_part g) ps) k) ≡ cond b p.factor (factor_of ps k) *ℤ g) [ true ↦ refl | false ↦ factor_times g ps k ]

multiplied_parts : (n : ℕ) (ps qs : List Part) → IsRising ps → IsRising qs → AllByRecursion (λ p. p.factor ≢ pos 0) ps → AllByRecursion (λ p. p.factor ≢ pos 0) qs
    → ((k : ℕ) → factor_of ps k ≡ factor_of qs k *ℤ pos (suc n)) → ps ≡ map (times_part (pos (suc n))) qs
multiplied_parts n ps qs r s y z h =
    same_parts ps (map (times_part (pos (suc n))) qs) r (rising_times (pos (suc n)) qs s) y (nonzero_times n qs z) (λ k. h k ∙ sym (factor_times (pos (suc n)) qs k))

regrouped : (z g d : ℤ) → (z *ℤ g) *ℤ d ≡ (z *ℤ d) *ℤ g
regrouped z g d = simp ring

-- a quotient by a number that divides is whole
whole_quotient : (b d z : ℤ) (n : ℕ) → pos 0 <ℤ d → whole (pos (suc n)) *ℚ ratio b d ≡ whole (z *ℤ pos (suc n)) → b ≡ z *ℤ d
whole_quotient b d z n p e =
    let one : pos 0 <ℤ pos 1 = omega (arith, ints) in
    let over : ratio (b *ℤ pos (suc n)) (d *ℤ pos 1) ≡ whole (z *ℤ pos (suc n)) = ratio_times (pos (suc n)) (pos 1) b d one p ∙ e in
    let cross : b *ℤ pos (suc n) ≡ (z *ℤ pos (suc n)) *ℤ (d *ℤ pos 1) = ratio_whole (b *ℤ pos (suc n)) (d *ℤ pos 1) (z *ℤ pos (suc n)) (product_positive d (pos 1) p one) over in
    cancel b (z *ℤ d) n (cross ∙ ap (λ t. (z *ℤ pos (suc n)) *ℤ t) (mul_one_z d) ∙ regrouped z (pos (suc n)) d)

-- ---- rounding
module _ (rel : Relation) (ks : List Term) (x y : Lin) (from to : Linear) (i : IsFormOf ks x (lowered rel from)) (j : IsFormOf ks y to) where
  x_factor : x.den ≡ pos 1 → (u : Term) → term_factor from u ≡ whole (factor_of x.parts (place_of ks u))
  x_factor one u = sym (lowered_factor rel from u) ∙ whole_factor x (lowered rel from) i.normal (reading ks x (lowered rel from) i) one u

  y_factor : y.den ≡ pos 1 → (u : Term) → term_factor to u ≡ whole (factor_of y.parts (place_of ks u))
  y_factor one u = whole_factor y to j.normal (reading ks y to j) one u

  -- what holds of the factors of each term holds of those of each key
  by_keys : (n : ℕ) → ((u : Term) → factor_of x.parts (place_of ks u) ≡ factor_of y.parts (place_of ks u) *ℤ pos n) → (k : ℕ) → factor_of x.parts k ≡ factor_of y.parts k *ℤ pos n
  by_keys n h k =
      elim (cases_lt k (length ks)) [
        | inl l ↦ subst (λ p. factor_of x.parts p ≡ factor_of y.parts p *ℤ pos n) (place_get ks k (Bound 0) l i.distinct) (h (get_or ks k (Bound 0)))
        | inr l ↦ no_key (length ks) x.parts k i.keys l ∙ sym (zero-*ℤ (pos n)) ∙ ap (λ z. z *ℤ pos n) (sym (no_key (length ks) y.parts k j.keys l))
      ]

  quotient_by : (g : ℕ) (r : IsRounded rel from to) → r.divisor ≡ g → IsQuotient x y
  quotient_by zero r e =
      let w = r.divides r.occurs.0 in
      absurd (r.occurs.1 (w.1 ∙ ap (λ d. whole (w.0 *ℤ pos d)) e ∙ whole_zero w.0))
  quotient_by (suc n) r e =
      let rounds : (u : Term) → whole (pos (suc n)) *ℚ term_factor to u ≡ term_factor from u = subst (λ d. (u : Term) → whole (pos d) *ℚ term_factor to u ≡ term_factor from u) e r.factors in
      let divides : AreMultiples from (suc n) = subst (AreMultiples from) e r.divides in
      let greatest : (d : ℕ) → AreMultiples from d → d ∣ suc n = subst (λ g. (d : ℕ) → AreMultiples from d → d ∣ g) e r.greatest in
      let lows = lowered_multiples rel from (suc n) divides in
      let level = lowered_constant rel from r.constant r.is in
      let one = whole_den x (lowered rel from) i.normal (reading ks x (lowered rel from) i) (suc n) lows (slack rel r.constant) level in
      let den : y.den ≡ pos 1 =
      den_one y j.normal
      (by_terms y to j.normal (reading ks y to j) (unsigned_abs y.den) (λ u. let w = divides u in
      let b = factor_of y.parts (place_of ks u) in
      size_divides b w.0 y.den (whole_quotient b y.den w.0 n j.normal.positive (ap (λ q. whole (pos (suc n)) *ℚ q) (sym ((reading ks y to j).factors u)) ∙ rounds u ∙ w.1))))
      (size_divides y.constant r.rounded y.den (ratio_whole y.constant y.den r.rounded j.normal.positive (j.means.constants ∙ r.down))) in
      record {
        divisor = suc n;
        occurs = occurs_here x (lowered rel from) i.normal (reading ks x (lowered rel from) i) r.occurs.0 (λ z. r.occurs.1 (sym (lowered_factor rel from r.occurs.0) ∙ z));
        den = one;
        common = (
          all_multiples x (lowered rel from) i.normal (reading ks x (lowered rel from) i) one (suc n) lows,
          λ d h. greatest d (raised_multiples rel from d (divide_multiples x (lowered rel from) i.normal (reading ks x (lowered rel from) i) one d h)),
        );
        quotient_den = den;
        factors =
            multiplied_parts n x.parts y.parts i.normal.rising j.normal.rising i.normal.nonzero j.normal.nonzero
            (by_keys (suc n) (λ u.
            let a = factor_of x.parts (place_of ks u) in
            let b = factor_of y.parts (place_of ks u) in
            same_whole a (b *ℤ pos (suc n))
            (sym (x_factor one u) ∙ sym (rounds u) ∙ ap (λ q. whole (pos (suc n)) *ℚ q) (y_factor den u) ∙ times_whole (pos (suc n)) b ∙ ap whole (*ℤ_comm (pos (suc n)) b))));
        floor =
            let top : slack rel r.constant ≡ x.constant = same_whole (slack rel r.constant) x.constant (sym level ∙ whole_level x (lowered rel from) i.normal (reading ks x (lowered rel from) i) one) in
            let bottom : r.rounded ≡ y.constant = same_whole r.rounded y.constant (sym r.down ∙ whole_level y to j.normal (reading ks y to j) den) in
            subst (λ k. IsFloor k (suc n) y.constant) top (subst (IsFloor (slack rel r.constant) (suc n)) bottom (subst (λ g. IsFloor (slack rel r.constant) g r.rounded) e r.floor));
      }

  pub rounded_quotient : IsRounded rel from to → IsQuotient x y
  rounded_quotient r = quotient_by r.divisor r refl

  pub quotient_rounded : IsQuotient x y → IsRounded rel from to
  quotient_rounded q =
      let r = reading ks x (lowered rel from) i in
      let there = occurs_there x (lowered rel from) i.normal r q.den q.occurs in
      let level = raised_constant rel from x.constant (whole_level x (lowered rel from) i.normal r q.den) in
      record {
        occurs = (there.0, λ e. there.1 (lowered_factor rel from there.0 ∙ e));
        divisor = q.divisor;
        divides = raised_multiples rel from q.divisor (divide_multiples x (lowered rel from) i.normal r q.den q.divisor q.common.0);
        greatest = λ d a. q.common.1 d (all_multiples x (lowered rel from) i.normal r q.den d (lowered_multiples rel from d a));
        factors = λ u.
            let k = place_of ks u in
            ap (λ t. whole (pos q.divisor) *ℚ t) (y_factor q.quotient_den u) ∙ times_whole (pos q.divisor) (factor_of y.parts k)
            ∙ ap whole (*ℤ_comm (pos q.divisor) (factor_of y.parts k) ∙ sym (factor_times (pos q.divisor) y.parts k) ∙ ap (λ (ps : List Part). factor_of ps k) (sym q.factors)) ∙ sym (x_factor q.den u);
        constant = level.0;
        is = level.1;
        rounded = y.constant;
        floor = subst (λ k. IsFloor k q.divisor y.constant) (sym level.2) q.floor;
        down = whole_level y to j.normal (reading ks y to j) q.quotient_den;
      }

-- ---- what is computed
common_unique : (ns : List ℕ) (g h : ℕ) → IsCommonDivisor ns g → IsCommonDivisor ns h → g ≡ h
common_unique ns g h a b = dvd_antisymm (b.1 g a.0) (a.1 h b.0)

-- the common divisor of factors is positive where there is one
pub positive_common : (f : Lin) (g : ℤ) → IsNormal f → f.parts ≢ [] → IsCommonDivisor (factor_sizes f.parts) (unsigned_abs g) → pos 0 ≤ℤ g → pos 0 <ℤ g
positive_common f (negsuc m) n o c h = absurd (omega (arith, ints))
positive_common f (pos (suc m)) n o c h = omega (arith, ints)
positive_common f (pos zero) n o c h =
    let k = first_key f.parts n.nonzero o in
    absurd (k.1 (size_zero (factor_of f.parts k.0) (zero-dvd.0 (divides_key 0 f.parts c.0 k.0))))

size_back : (g : ℤ) → pos 0 <ℤ g → pos (unsigned_abs g) ≡ g
size_back (pos n) h = refl
size_back (negsuc n) h = absurd (omega (arith, ints))

pub apart_by : (f : Lin) (g : ℤ) → (f.den ≡ pos 1) × (f.parts ≢ []) → IsCommonDivisor (factor_sizes f.parts) (unsigned_abs g) → ¬ (unsigned_abs g ∣ unsigned_abs f.constant) → IsApart f
apart_by f g w c n = record { divisor = unsigned_abs g; occurs = w.1; den = w.0; common = c; apart = n }

pub apart_from : (f : Lin) (g : ℤ) → IsCommonDivisor (factor_sizes f.parts) (unsigned_abs g) → IsApart f → ¬ (unsigned_abs g ∣ unsigned_abs f.constant)
apart_from f g c a d = a.apart (subst (λ n. n ∣ unsigned_abs f.constant) (common_unique (factor_sizes f.parts) (unsigned_abs g) a.divisor c a.common) d)

pub quotient_computed : (x y : Lin) (g : ℤ) → (x.den ≡ pos 1) × (x.parts ≢ []) → y.den ≡ pos 1 → pos 0 <ℤ g → IsCommonDivisor (factor_sizes x.parts) (unsigned_abs g) → x.parts ≡ map (times_part g) y.parts → IsFloor x.constant (unsigned_abs g) y.constant → IsQuotient x y
quotient_computed x y g w d p c m f = record {
  divisor = unsigned_abs g;
  occurs = w.1;
  den = w.0;
  common = c;
  quotient_den = d;
  factors = m ∙ ap (λ z. map (times_part z) y.parts) (sym (size_back g p));
  floor = f;
}

pub quotient_multiples : (x y : Lin) (g : ℤ) → pos 0 <ℤ g → IsCommonDivisor (factor_sizes x.parts) (unsigned_abs g) → IsQuotient x y → x.parts ≡ map (times_part g) y.parts
quotient_multiples x y g p c q =
    q.factors ∙ ap (λ n. map (times_part (pos n)) y.parts) (common_unique (factor_sizes x.parts) q.divisor (unsigned_abs g) q.common c) ∙ ap (λ z. map (times_part z) y.parts) (size_back g p)

pub quotient_floor : (x y : Lin) (g : ℤ) → IsCommonDivisor (factor_sizes x.parts) (unsigned_abs g) → IsQuotient x y → IsFloor x.constant (unsigned_abs g) y.constant
quotient_floor x y g c q = subst (λ n. IsFloor x.constant n y.constant) (common_unique (factor_sizes x.parts) q.divisor (unsigned_abs g) q.common c) q.floor

-- the same of the divisor and the constant as they are read back from their bits
pub apart_test : (f : Lin) (g h k : ℤ) (b : Bool) → h ≡ g → k ≡ f.constant → (f.den ≡ pos 1) × (f.parts ≢ []) → IsCommonDivisor (factor_sizes f.parts) (unsigned_abs g)
    → (IsTrue b → unsigned_abs h ∣ unsigned_abs k) × (unsigned_abs h ∣ unsigned_abs k → IsTrue b) → (IsTrue (not b) → IsApart f) × (IsApart f → IsTrue (not b))
apart_test f g h k b e s w c t = by_test b t
  where
    read : unsigned_abs h ∣ unsigned_abs k → unsigned_abs g ∣ unsigned_abs f.constant
    read d = subst (λ z. unsigned_abs g ∣ unsigned_abs z) s (subst (λ z. unsigned_abs z ∣ unsigned_abs k) e d)

    back : unsigned_abs g ∣ unsigned_abs f.constant → unsigned_abs h ∣ unsigned_abs k
    back d = subst (λ z. unsigned_abs z ∣ unsigned_abs k) (sym e) (subst (λ z. unsigned_abs g ∣ unsigned_abs z) (sym s) d)

    by_test : (b : Bool) → (IsTrue b → unsigned_abs h ∣ unsigned_abs k) × (unsigned_abs h ∣ unsigned_abs k → IsTrue b) → (IsTrue (not b) → IsApart f) × (IsApart f → IsTrue (not b))
    by_test true t = (λ z. false_true z, λ a. absurd (apart_from f g c a (read (t.0 refl))))
    by_test false t = (λ z. apart_by f g w c (λ d. false_true (t.1 (back d))), λ a. refl)

-- what the tests of parts and of the constant say, with the divisor and the constants as they are read back
module _ (x y : Lin) (g h : ℤ) (e : h ≡ g) (w : (x.den ≡ pos 1) × (x.parts ≢ [])) (d : y.den ≡ pos 1) (p : pos 0 <ℤ g) (c : IsCommonDivisor (factor_sizes x.parts) (unsigned_abs g)) where
  pub multiples_test : (a : Bool) → a ≡ false → (IsTrue a → x.parts ≡ map (times_part h) y.parts) × (x.parts ≡ map (times_part h) y.parts → IsTrue a) → (IsTrue a → IsQuotient x y) × (IsQuotient x y → IsTrue a)
  multiples_test a f t = ((λ z. false_true (sym f ∙ z)), λ q. t.1 (subst (λ z. x.parts ≡ map (times_part z) y.parts) (sym e) (quotient_multiples x y g p c q)))

  pub quotient_test : (a b : Bool) (k r : ℤ) → a ≡ true → k ≡ x.constant → r ≡ y.constant → (IsTrue a → x.parts ≡ map (times_part h) y.parts) × (x.parts ≡ map (times_part h) y.parts → IsTrue a)
      → (IsTrue b → IsFloor k (unsigned_abs h) r) × (IsFloor k (unsigned_abs h) r → IsTrue b) → (IsTrue b → IsQuotient x y) × (IsQuotient x y → IsTrue b)
  quotient_test a b k r f s u t v = (
    λ z. quotient_computed x y g w d p c (subst (λ z. x.parts ≡ map (times_part z) y.parts) e (t.0 f))
        (subst (λ z. IsFloor x.constant (unsigned_abs z) y.constant) e (subst (λ n. IsFloor n (unsigned_abs h) y.constant) s (subst (IsFloor k (unsigned_abs h)) u (v.0 z)))),
    λ q. v.1 (subst (IsFloor k (unsigned_abs h)) (sym u) (subst (λ n. IsFloor n (unsigned_abs h) y.constant) (sym s) (subst (λ z. IsFloor x.constant (unsigned_abs z) y.constant) (sym e) (quotient_floor x y g c q)))),
  )
