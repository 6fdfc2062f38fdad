-- Rounding has one result, which isn't rounded any further.
use Rattle.std.specs.Prelude.{ℕ, suc, zero, ℤ, pos, negsuc, ◌≡◌, ◌≢◌, ◌*◌, ◌*ℤ◌, ◌-ℤ◌, ◌+ℤ◌, ◌<ℤ◌, ◌≤ℤ◌, ◌<◌, Bool, false, List, [], ◌∷◌, map, unsigned_abs}
use Rattle.std.specs.Int.{◌∣◌}
use Rattle.std.proofs.Common.{arith, refl, sym, ap, ◌∙◌, subst}
use Rattle.std.proofs.lemmas.Int.{unsigned_abs-mul}
use Rattle.std.proofs.Math.Nat.{dvd_of_mul-dvd-mul_right, mul-dvd-mul_right}
use native.Mathlib.Nat.{dvd_antisymm, one-dvd, one-mul}
use lib.IntN.{one, *ℤ-one}
use borrow.Author.Differences.{ints}
use Rattle.ae_math.specs.Inner.Integers.{add_mul_z}
use Rattle.ae_math.specs.Inner.Respected.{cancel}
use Rattle.ae_num.specs.declared.forms.Part.{Part}
use Rattle.ae_num.specs.declared.forms.Lin.{Lin}
use Rattle.ae_num.specs.Forms.{IsNormal, DividesAll, IsCommonDivisor}
use Rattle.ae_num.specs.Limits.{FitsLimits}
use Rattle.ae_rules.specs.Lines.{IsFloor}
use Rattle.ae_journal.specs.Sides.{AreDivided, IsRounded}
use Rattle.ae_rounding.specs.Outside.{IsOutside}
use Rattle.ae_bounds.proofs.Rounded.{divisor_positive}

-- ---- the floor is the greatest such number
not_beyond : (p k q : ℤ) (n : ℕ) → k <ℤ p → q ≤ℤ k → q ≢ p +ℤ pos n
not_beyond p k q n a b e = omega (arith, ints)

pub floor_most : (k : ℤ) (d : ℕ) (r s : ℤ) → IsFloor k d r → (s *ℤ pos d) ≤ℤ k → s ≤ℤ r
floor_most k d r s a b = by_gap (s -ℤ r) refl
  where
    by_gap : (z : ℤ) → s -ℤ r ≡ z → s ≤ℤ r
    by_gap (pos zero) e = omega (arith, ints, e)
    by_gap (pos (suc m)) e =
        absurd (not_beyond ((r +ℤ pos 1) *ℤ pos d) k (s *ℤ pos d) (m * d) a.less b
        (ap (λ z. z *ℤ pos d) (let h : s ≡ (r +ℤ pos 1) +ℤ pos m = omega (arith, ints, e) in h) ∙ add_mul_z (r +ℤ pos 1) (pos m) (pos d)))
    by_gap (negsuc m) e = omega (arith, ints, e)

floor_one : (k : ℤ) (d : ℕ) (r s : ℤ) → IsFloor k d r → IsFloor k d s → r ≡ s
floor_one k d r s a b = let p = floor_most k d r s a b.at_least in let q = floor_most k d s r b a.at_least in omega (arith, ints, p, q)

-- ---- one result
same_factor : (d : ℕ) (x y z : ℤ) → pos 0 <ℤ pos d → z ≡ x *ℤ pos d → z ≡ y *ℤ pos d → x ≡ y
same_factor zero x y z p e f = absurd (omega (arith, ints, p))
same_factor (suc n) x y z p e f = cancel x y n (sym e ∙ f)

same_quotients : (d : ℕ) → pos 0 <ℤ pos d → (qs rs ss : List Part) → AreDivided d qs rs → AreDivided d qs ss → rs ≡ ss
same_quotients d p [] [] [] a b = refl
same_quotients d p [] [] (s ∷ ss) a b = absurd b
same_quotients d p [] (r ∷ rs) ss a b = absurd a
same_quotients d p (q ∷ qs) [] ss a b = absurd a
same_quotients d p (q ∷ qs) (r ∷ rs) [] a b = absurd b
same_quotients d p (q ∷ qs) (r ∷ rs) (s ∷ ss) a b =
    let key : r.key ≡ s.key = sym a.0 ∙ b.0 in
    let factor : r.factor ≡ s.factor = same_factor d r.factor s.factor q.factor p a.1 b.1 in
    let rest : rs ≡ ss = same_quotients d p qs rs ss a.2 b.2 in
    λ i. record { key = key i; factor = factor i } ∷ rest i

one_divisor : (ns : List ℕ) (a b : ℕ) → IsCommonDivisor ns a → IsCommonDivisor ns b → a ≡ b
one_divisor ns a b h k = dvd_antisymm (k.1 a h.0) (h.1 b k.0)

module _ (strict : Bool) (l : Lin) (normal : IsNormal l) (names : l.parts ≢ []) where
  pub rounded_one : (r s : Lin) → IsRounded strict l r → IsRounded strict l s → r ≡ s
  rounded_one r s a b =
      let d : a.divisor ≡ b.divisor = one_divisor (map (λ q. unsigned_abs q.factor) l.parts) a.divisor b.divisor a.greatest b.greatest in
      let positive : pos 0 <ℤ pos a.divisor = divisor_positive l normal names a.divisor r.parts a.divided in
      let parts : r.parts ≡ s.parts = same_quotients a.divisor positive l.parts r.parts s.parts a.divided (subst (λ n. AreDivided n l.parts s.parts) (sym d) b.divided) in
      let constant : r.constant ≡ s.constant = floor_one _ a.divisor r.constant s.constant a.floor (subst (λ n. IsFloor _ n s.constant) (sym d) b.floor) in
      let den : r.den ≡ s.den = a.whole ∙ sym b.whole in
      λ i. record { den = den i; parts = parts i; constant = constant i }

  -- outside the limits there is none in the normal form
  pub outside_none : (r : Lin) → IsOutside strict l → IsRounded strict l r → IsNormal r → ⊥
  outside_none r o a n =
      let d : o.divisor ≡ a.divisor = one_divisor (map (λ q. unsigned_abs q.factor) l.parts) o.divisor a.divisor o.greatest a.greatest in
      let constant : r.constant ≡ o.constant = floor_one _ a.divisor r.constant o.constant a.floor (subst (λ k. IsFloor _ k o.constant) d o.floor) in
      o.outside (subst FitsLimits constant (n.within).1.0)

  -- ---- what is rounded is its own rounding
  all_ones : (ns : List ℕ) → DividesAll 1 ns
  all_ones [] = tt
  all_ones (n ∷ ns) = (one-dvd n, all_ones ns)

  pub own_quotients : (rs : List Part) → AreDivided 1 rs rs
  unfolding lib.IntN.one
  own_quotients [] = tt
  own_quotients (r ∷ rs) = (refl, sym (*ℤ-one r.factor), own_quotients rs)

  divides_back : (d e : ℕ) (qs rs : List Part) → AreDivided d qs rs → DividesAll e (map (λ q. unsigned_abs q.factor) rs) → DividesAll (e * d) (map (λ q. unsigned_abs q.factor) qs)
  divides_back d e [] rs a h = tt
  divides_back d e (q ∷ qs) [] a h = absurd a
  divides_back d e (q ∷ qs) (r ∷ rs) a h = (
    subst (λ n. e * d ∣ n) (sym (ap unsigned_abs a.1 ∙ unsigned_abs-mul r.factor (pos d))) (mul-dvd-mul_right e h.0 d),
    divides_back d e qs rs a.2 h.1,
  )

  above_zero : (d : ℕ) → pos 0 <ℤ pos d → 0 < d
  above_zero zero p = absurd (omega (arith, ints, p))
  above_zero (suc n) p = omega arith

  pub own_floor : (k : ℤ) → IsFloor k 1 k
  unfolding lib.IntN.one
  own_floor k = record { at_least = subst (λ z. z ≤ℤ k) (sym (*ℤ-one k)) (omega (arith, ints)); less = subst (λ z. k <ℤ z) (sym (*ℤ-one (k +ℤ pos 1))) (omega (arith, ints)) }

  pub rounded_again : (r : Lin) → IsRounded strict l r → IsRounded false r r
  rounded_again r a =
      let d = a.divisor in
      let z : 0 < d = above_zero d (divisor_positive l normal names d r.parts a.divided) in
      record {
        divisor = 1;
        whole = a.whole;
        divided = own_quotients r.parts;
        greatest = (
          all_ones (map (λ q. unsigned_abs q.factor) r.parts),
          λ e h. dvd_of_mul-dvd-mul_right e z (subst (λ n. e * d ∣ n) (sym (one-mul d)) (a.greatest.1 (e * d) (divides_back d e l.parts r.parts a.divided h))),
        );
        floor = own_floor r.constant;
      }

  pub divided_some : (r : Lin) → IsRounded strict l r → r.parts ≢ []
  divided_some r a = by_parts l.parts r.parts names a.divided
    where
      by_parts : (qs rs : List Part) → qs ≢ [] → AreDivided a.divisor qs rs → rs ≢ []
      by_parts [] rs n h e = n refl
      by_parts (q ∷ qs) [] n h e = h
      by_parts (q ∷ qs) (r ∷ rs) n h e = cc
