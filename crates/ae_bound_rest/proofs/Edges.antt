-- Forms over integers that a strict row can't be rounded from: the constant is the least within the limits, and the factors have no divisor in common.
use Rattle.std.specs.Prelude.{ℕ, zero, suc, ℤ, pos, negsuc, ◌≡◌, ◌≢◌, ◌⊎◌, ◌<◌, ◌≤◌, ◌*◌, ◌^◌, ◌*ℤ◌, ◌+ℤ◌, ◌-ℤ◌, ◌<ℤ◌, ◌≤ℤ◌, Bool, true, false, [], map, unsigned_abs}
use Rattle.std.proofs.Common.{arith, refl, sym, ap, ◌∙◌, subst, inl, inr, mul-le-mul_left}
use native.Mathlib.Decide.{ℕ_discrete}
use lib.IntN.{zero-*ℤ}
use borrow.Author.Differences.{ints}
use Rattle.ae_math.specs.Inner.Integers.{add_mul_z}
use Rattle.ae_math.proofs.FormLaws.{factor_in-scale}
use Rattle.ae_num.specs.declared.forms.Lin.{Lin}
use Rattle.ae_num.specs.Forms.{meaning, IsNormal, IsCommonDivisor}
use Rattle.ae_num.specs.Limits.{FitsLimits}
use Rattle.ae_rules.specs.Lines.{IsFloor}
use Rattle.ae_journal.specs.Sides.{IsRounded}
use Rattle.ae_rounding.specs.Outside.{IsOutside}
use Rattle.ae_rounding.proofs.Quotients.{Factors, above_zero, with_constant}
use Rattle.ae_ineq.specs.Inner.Sets.{IsMultiple}
use Rattle.ae_ineq.proofs.Directions.{directions_same}
use Rattle.ae_ineq.proofs.LastLaws.{ratio_positive}
use Rattle.ae_ineq.proofs.RowSets.{multiples_meet}
use Rattle.ae_bounds.proofs.SameDirection.{turned}
use Rattle.ae_bounds.proofs.Rounded.{IsWeaker, times, share, factors}
use Rattle.ae_bound_points.proofs.Weaker.{multiple_weaker, weaker_on}
use Rattle.ae_bound_rest.proofs.Roundings.{own_quotients, own_floor, rounded_again}
use Rattle.ae_bound_rest.proofs.Solid.{primitive, weaker_rounded}

-- ---- a floor that is outside the limits
below_sum : (k r : ℤ) (n : ℕ) → k <ℤ r → r +ℤ pos n ≡ pos 0 → (k +ℤ pos n) <ℤ pos 0
below_sum k r n h e = omega (arith, ints, h, e)

opposite_times : (r : ℤ) (y d : ℕ) → r +ℤ pos y ≡ pos 0 → (r *ℤ pos d) +ℤ pos (y * d) ≡ pos 0
opposite_times r y d e = sym (add_mul_z r (pos y) (pos d)) ∙ ap (λ z. z *ℤ pos d) e ∙ zero-*ℤ (pos d)

-- the number is beyond the limits, or below the product of the least number and the divisor
floor_beyond : (k : ℤ) (d : ℕ) (r : ℤ) → 0 < d → IsFloor k d r → ¬ FitsLimits r → (pos (2 ^ 127) ≤ℤ k) ⊎ ((y : ℕ) × (2 ^ 127 ≤ suc y) × ((k +ℤ pos (y * d)) <ℤ pos 0))
floor_beyond k d (pos n) l f out =
    let a : pos (n * d) ≤ℤ k = f.at_least in
    let b = mul-le-mul_left n (let h : 1 ≤ d = omega (arith, l) in h) in
    let o : ¬ (n < 2 ^ 127) = out in
    let c : 2 ^ 127 ≤ n = omega (arith, o) in
    inl (omega (arith, ints, a, b, c))
floor_beyond k d (negsuc n) l f out =
    let o : ¬ (suc n < 2 ^ 127) = out in
    let c : 2 ^ 127 ≤ suc n = omega (arith, o) in
    let e = opposite_times (negsuc n +ℤ pos 1) n d (let h : (negsuc n +ℤ pos 1) +ℤ pos n ≡ pos 0 = omega (arith, ints) in h) in
    inr (n, c, below_sum k ((negsuc n +ℤ pos 1) *ℤ pos d) (n * d) f.less e)

not_above : (z : ℤ) → FitsLimits z → z <ℤ pos (2 ^ 127)
not_above (pos n) h = let g : n < 2 ^ 127 = h in omega (arith, ints, g)
not_above (negsuc n) h = omega (arith, ints)

not_below : (z : ℤ) → FitsLimits z → pos 0 <ℤ (z +ℤ pos (2 ^ 127))
not_below (pos n) h = omega (arith, ints)
not_below (negsuc n) h = let g : suc n < 2 ^ 127 = h in omega (arith, ints, g)

beyond_above : (k : ℤ) (y p : ℕ) → 2 ^ 127 ≤ suc y → y ≤ p → (k +ℤ pos p) <ℤ pos 0 → (k +ℤ pos (2 ^ 127)) ≤ℤ pos 0
beyond_above k y p a b c = omega (arith, ints, a, b, c)

module _ (l : Lin) (normal : IsNormal l) (names : l.parts ≢ []) where
  abbrev fits : FitsLimits l.constant
  fits = ((normal.within).1).0

  some_divisor : (d : ℕ) → IsCommonDivisor (Factors l.parts) d → 0 < d
  some_divisor d c = let h = above_zero l.parts (pos d) normal.nonzero names (omega (arith, ints)) c in omega (arith, ints, h)

  below_product : (k : ℤ) (o : ℕ) (y : ℕ) → 0 < o → 2 ^ 127 ≤ suc y → (k +ℤ pos (y * o)) <ℤ pos 0 → (k +ℤ pos (2 ^ 127)) ≤ℤ pos 0
  below_product k o y p a c = let b = mul-le-mul_left y (let h : 1 ≤ o = omega (arith, p) in h) in beyond_above k y (y * o) a (omega (arith, b)) c

  -- a form that isn't strict can be rounded
  pub loose_inside : IsOutside false l → ⊥
  loose_inside o =
      elim (floor_beyond l.constant o.divisor o.constant (some_divisor o.divisor o.greatest) o.floor o.outside) [
        | inl a ↦ (let h = not_above l.constant fits in omega (arith, ints, a, h))
        | inr b ↦ (let h = not_below l.constant fits in let c = below_product l.constant o.divisor b.0 (some_divisor o.divisor o.greatest) b.1 b.2 in omega (arith, ints, c, h))
      ]

  module _ (o : IsOutside true l) where
    far : (y : ℕ) × (2 ^ 127 ≤ suc y) × (((l.constant -ℤ pos 1) +ℤ pos (y * o.divisor)) <ℤ pos 0)
    far =
        elim (floor_beyond (l.constant -ℤ pos 1) o.divisor o.constant (some_divisor o.divisor o.greatest) o.floor o.outside) [
          | inl a ↦ absurd (let h = not_above l.constant fits in omega (arith, ints, a, h))
          | inr b ↦ b
        ]

    low : ((l.constant -ℤ pos 1) +ℤ pos (2 ^ 127)) ≤ℤ pos 0
    low = below_product (l.constant -ℤ pos 1) o.divisor far.0 (some_divisor o.divisor o.greatest) far.1 far.2

    -- no number within the limits is less than the constant
    pub least : (z : ℤ) → FitsLimits z → l.constant ≤ℤ z
    least z h = let a = not_below z h in let b = low in omega (arith, ints, a, b)

    pub beyond : ¬ FitsLimits (l.constant -ℤ pos 1)
    beyond h = let a = not_below (l.constant -ℤ pos 1) h in let b = low in omega (arith, ints, a, b)

    divisor_one : o.divisor ≡ 1
    divisor_one = by_divisor o.divisor refl
      where
        too_far : (k : ℤ) (y p : ℕ) → 2 ^ 127 ≤ suc y → y * 2 ≤ p → ((k -ℤ pos 1) +ℤ pos p) <ℤ pos 0 → pos 0 <ℤ (k +ℤ pos (2 ^ 127)) → ⊥
        too_far k y p a b c h = omega (arith, ints, a, b, c, h)

        by_divisor : (d : ℕ) → o.divisor ≡ d → o.divisor ≡ 1
        by_divisor zero e = absurd (let h = some_divisor o.divisor o.greatest in omega (arith, h, e))
        by_divisor (suc zero) e = e
        by_divisor (suc (suc j)) e =
            let b = mul-le-mul_left far.0 (let h : 2 ≤ o.divisor = omega (arith, e) in h) in
            let h = not_below l.constant fits in
            absurd (too_far l.constant far.0 (far.0 * o.divisor) far.1 b far.2 h)

    -- ---- the form without its denominator
    abbrev whole : Lin
    whole = record { den = pos 1; parts = l.parts; constant = l.constant }

    whole_normal : IsNormal whole
    whole_normal = with_constant l l.constant normal fits

    abbrev whole_rounded : IsRounded false l whole
    whole_rounded = record {
      divisor = 1;
      whole = refl;
      divided = own_quotients false l normal names l.parts;
      greatest = subst (λ d. IsCommonDivisor (map (λ q. unsigned_abs q.factor) l.parts) d) divisor_one o.greatest;
      floor = own_floor false l normal names l.constant;
    }

    whole_again : IsRounded false whole whole
    whole_again = rounded_again false l normal names whole whole_rounded

    to_whole : IsMultiple (meaning l) (meaning whole)
    to_whole =
        let t = times false l whole normal names whole_normal whole_rounded in
        record {
          times = t;
          positive = ratio_positive l.den (pos 1) normal.positive (omega (arith, ints));
          same = record {
            factors = λ k. factor_in-scale ℕ_discrete t (meaning l).parts k ∙ factors false l whole normal names whole_normal whole_rounded k;
            constants = share false l whole normal names whole_normal whole_rounded l.constant;
          };
        }

    -- what is rounded of a form that is above it is above it too
    pub over_edge : (strict : Bool) (f q : Lin) → IsNormal f → f.parts ≢ [] → IsNormal q → IsRounded strict f q → IsWeaker (meaning f) (meaning l) → IsWeaker (meaning q) (meaning l)
    over_edge strict f q nf mf nq is w =
        let up = weaker_on (meaning f) (meaning l) (meaning whole) w (multiple_weaker (meaning l) (meaning whole) to_whole) in
        weaker_on (meaning q) (meaning whole) (meaning l) (weaker_rounded strict f q whole nf mf nq is whole_normal names whole_again up (least q.constant ((nq.within).1).0))
        (multiple_weaker (meaning whole) (meaning l) (turned (meaning l) (meaning whole) to_whole))

    -- a rounded form of which it is a multiple has its constant
    pub rounded_constant : (h : Lin) → IsNormal h → h.parts ≢ [] → IsRounded false h h → IsMultiple (meaning h) (meaning l) → h.constant ≡ l.constant
    rounded_constant h n m a k =
        ap (λ (f : Lin). f.constant)
        (directions_same h whole n whole_normal (primitive h n m a) (primitive whole whole_normal names whole_again)
        (multiples_meet (meaning h) (meaning whole) (meaning l) k (turned (meaning l) (meaning whole) to_whole)))
