-- A form has one normal form for its meaning.
use Rattle.std.specs.Prelude.{ℕ, ℤ, pos, negsuc, ◌≡◌, ◌≢◌, ◌<◌, ◌*◌, ◌/◌, ◌*ℤ◌, ◌<ℤ◌, cond, Bool, true, false, nat_eq, List, [], ◌∷◌, map, unsigned_abs}
use Rattle.std.specs.List.{AllByRecursion}
use Rattle.std.specs.Int.{◌∣◌, IsGcd}
use Rattle.std.proofs.Common.{arith, refl, sym, ap, ◌∙◌, subst, zero, suc}
use native.Mathlib.Nat.{dvd-zero, dvd_antisymm, dvd-mul_left, dvd-mul_right, dvd-one, one-mul, mul_comm, mul_assoc}
use borrow.Author.Differences.{ints}
use Rattle.ae_math.specs.Fractions.{ratio}
use Rattle.ae_math.specs.Inner.Respected.{cancel}
use Rattle.ae_math.proofs.FractionLaws.{same_frac}
use Rattle.ae_base.proofs.Integers.{size_same}
use Rattle.std.proofs.lemmas.Int.{unsigned_abs-mul}
use Rattle.ae_math.proofs.Divisors.{gcd_exists, coprime_parts, euclid, mul_cancel, divisor_positive, whole_part as whole_times}
use Rattle.std.proofs.lemmas.Bool.{eqb-true}
use Rattle.ae_num.specs.declared.forms.Part.{Part}
use Rattle.ae_num.specs.declared.forms.Lin.{Lin}
use Rattle.ae_num.specs.Forms.{meaning, SameMeaning, factor_of, AllAbove, IsRising, IsNormal, DividesAll, sizes}
use Rattle.ae_num.proofs.PairLaws.{absent, factor_head, lower}
use Rattle.ae_num.proofs.MeaningLaws.{factor_meaning}

data Order (m n : ℕ) : Type 0 where
  less : m < n → Order m n
  equal : m ≡ n → Order m n
  greater : n < m → Order m n

up_one : (m n : ℕ) → Order m n → Order (suc m) (suc n)
up_one m n (less h) = less (omega arith)
up_one m n (equal h) = equal (ap suc h)
up_one m n (greater h) = greater (omega arith)

order : (m n : ℕ) → Order m n
order zero zero = equal refl
order zero (suc n) = less (omega arith)
order (suc m) zero = greater (omega arith)
order (suc m) (suc n) = up_one m n (order m n)

abbrev NonZero : List Part → Type 0
NonZero ps = AllByRecursion (λ p. p.factor ≢ pos 0) ps

-- lists of parts with the same factors are equal
tails : (p q : Part) (ps qs : List Part) → p.key ≡ q.key → AllAbove p.key ps → AllAbove q.key qs → ((k : ℕ) → factor_of (p ∷ ps) k ≡ factor_of (q ∷ qs) k) → (k : ℕ) → factor_of ps k ≡ factor_of qs k
tails p q ps qs e a b h k = by_test (nat_eq p.key k) refl
  where
    by_test : (t : Bool) → nat_eq p.key k ≡ t → factor_of ps k ≡ factor_of qs k
    by_test true s =
        let at = eqb-true p.key k s in
        ap (factor_of ps) (sym at) ∙ absent p.key ps a ∙ sym (absent q.key qs b) ∙ ap (factor_of qs) (sym e ∙ at)
    by_test false s =
        ap (λ t. cond t p.factor (factor_of ps k)) (sym s) ∙ h k ∙ ap (λ t. cond t q.factor (factor_of qs k)) (ap (λ j. nat_eq j k) (sym e) ∙ s)

pub same_parts : (ps qs : List Part) → IsRising ps → IsRising qs → NonZero ps → NonZero qs → ((k : ℕ) → factor_of ps k ≡ factor_of qs k) → ps ≡ qs
same_parts [] [] r s m n h = refl
same_parts [] (q ∷ qs) r s m n h = absurd (n.0 (sym (factor_head q qs) ∙ sym (h q.key)))
same_parts (p ∷ ps) [] r s m n h = absurd (m.0 (sym (factor_head p ps) ∙ h p.key))
same_parts (p ∷ ps) (q ∷ qs) r s m n h = by_order (λ t. same_parts ps qs r.1 s.1 m.1 n.1 t) (order p.key q.key)
  where
    by_order : (((k : ℕ) → factor_of ps k ≡ factor_of qs k) → ps ≡ qs) → Order p.key q.key → p ∷ ps ≡ q ∷ qs
    by_order ih (less l) = absurd (m.0 (sym (factor_head p ps) ∙ h p.key ∙ absent p.key (q ∷ qs) (l, lower p.key q.key qs l s.0)))
    by_order ih (greater l) = absurd (n.0 (sym (factor_head q qs) ∙ sym (h q.key) ∙ absent q.key (p ∷ ps) (l, lower q.key p.key ps l r.0)))
    by_order ih (equal e) =
        let factors : p.factor ≡ q.factor = sym (factor_head p ps) ∙ h p.key ∙ ap (factor_of (q ∷ qs)) e ∙ factor_head q qs in
        λ i. record { key = e i; factor = factors i } ∷ ih (tails p q ps qs e r.0 s.0 h) i

-- ---- fractions that are equal
ratio_cross : (a dp b dq : ℤ) → pos 0 <ℤ dp → pos 0 <ℤ dq → ratio a dp ≡ ratio b dq → a *ℤ dq ≡ b *ℤ dp
ratio_cross a (pos zero) b dq p q e = absurd (omega (arith, ints))
ratio_cross a (negsuc m) b dq p q e = absurd (omega (arith, ints))
ratio_cross a (pos (suc m)) b (pos zero) p q e = absurd (omega (arith, ints))
ratio_cross a (pos (suc m)) b (negsuc n) p q e = absurd (omega (arith, ints))
ratio_cross a (pos (suc m)) b (pos (suc n)) p q e = same_frac a b m n e

sizes_cross : (a dp b dq : ℤ) → a *ℤ dq ≡ b *ℤ dp → unsigned_abs a * unsigned_abs dq ≡ unsigned_abs b * unsigned_abs dp
sizes_cross a dp b dq e = sym (unsigned_abs-mul a dq) ∙ ap unsigned_abs e ∙ unsigned_abs-mul b dp

cancel_size : (a b : ℤ) (d : ℤ) → pos 0 <ℤ d → a *ℤ d ≡ b *ℤ d → a ≡ b
cancel_size a b (pos zero) p e = absurd (omega (arith, ints))
cancel_size a b (negsuc m) p e = absurd (omega (arith, ints))
cancel_size a b (pos (suc m)) p e = cancel a b m e

-- ---- the denominators
pub all_divide : (d : ℕ) (ps : List Part) → IsRising ps → ((k : ℕ) → d ∣ unsigned_abs (factor_of ps k)) → DividesAll d (map (λ p. unsigned_abs p.factor) ps)
all_divide d [] r h = tt
all_divide d (p ∷ ps) r h = (subst (λ z. d ∣ unsigned_abs z) (factor_head p ps) (h p.key), all_divide d ps r.1 (λ k. by_test k (nat_eq p.key k) refl))
  where
    by_test : (k : ℕ) (t : Bool) → nat_eq p.key k ≡ t → d ∣ unsigned_abs (factor_of ps k)
    by_test k true s = subst (λ z. d ∣ unsigned_abs z) (sym (ap (factor_of ps) (sym (eqb-true p.key k s)) ∙ absent p.key ps r.0)) (dvd-zero d)
    by_test k false s = subst (λ t. d ∣ unsigned_abs (cond t p.factor (factor_of ps k))) s (h k)

regroup : (a e g : ℕ) → a * (e * g) ≡ a * e * g
regroup a e g = sym (mul_assoc a e g)

-- d, the first denominator less the divisor in common, divides a factor
part_divides : (a b d e g : ℕ) → 0 < g → IsGcd d e 1 → a * (e * g) ≡ b * (d * g) → d ∣ a
part_divides a b d e g z i h =
    let less : a * e ≡ b * d = mul_cancel (a * e) (b * d) g z (sym (regroup a e g) ∙ h ∙ regroup b d g) in
    euclid d e a i (subst (λ n. d ∣ n) (sym less ∙ mul_comm a e) (dvd-mul_left d b))

den_divides : (p q : Lin) → IsNormal p → IsNormal q → ((k : ℕ) → unsigned_abs (factor_of p.parts k) * unsigned_abs q.den ≡ unsigned_abs (factor_of q.parts k) * unsigned_abs p.den)
    → unsigned_abs p.constant * unsigned_abs q.den ≡ unsigned_abs q.constant * unsigned_abs p.den → (n : ℕ) → unsigned_abs p.den ≡ suc n → unsigned_abs p.den ∣ unsigned_abs q.den
den_divides p q np nq h c n size =
    let D = unsigned_abs p.den in
    let E = unsigned_abs q.den in
    let r = gcd_exists D E in
    let g = r.0 in
    let z : 0 < g = divisor_positive g n (subst (λ m. g ∣ m) size (r.1).0) in
    let d = D / g in
    let e = E / g in
    let dg : d * g ≡ D = whole_times D g z (r.1).0 in
    let eg : e * g ≡ E = whole_times E g z (r.1).1 in
    let coprime : IsGcd d e 1 = coprime_parts D E g d e z r.1 (sym dg) (sym eg) in
    let part : (a b : ℕ) → a * E ≡ b * D → d ∣ a = λ a b x. part_divides a b d e g z coprime (ap (λ m. a * m) eg ∙ x ∙ ap (λ m. b * m) (sym dg)) in
    let divides : DividesAll d (sizes p.den p.parts p.constant) =
    (subst (λ m. d ∣ m) dg (dvd-mul_right d g), (part _ _ c, all_divide d p.parts np.rising (λ k. part _ _ (h k)))) in
    let one : d ≡ 1 = dvd-one.0 (np.lowest.1 d divides) in
    let whole : g ≡ D = sym (one-mul g) ∙ ap (λ m. m * g) (sym one) ∙ dg in
    subst (λ m. m ∣ E) whole (r.1).1

positive_size : (z : ℤ) → pos 0 <ℤ z → (n : ℕ) × (unsigned_abs z ≡ suc n)
positive_size (pos zero) p = absurd (omega (arith, ints))
positive_size (pos (suc n)) p = (n, refl)
positive_size (negsuc n) p = absurd (omega (arith, ints))

pub unique : (p q : Lin) → IsNormal p → IsNormal q → SameMeaning (meaning p) (meaning q) → p ≡ q
unique p q np nq s =
    let cross : (k : ℕ) → factor_of p.parts k *ℤ q.den ≡ factor_of q.parts k *ℤ p.den =
    λ k. ratio_cross (factor_of p.parts k) p.den (factor_of q.parts k) q.den np.positive nq.positive (sym (factor_meaning p k np.rising) ∙ s.factors k ∙ factor_meaning q k nq.rising) in
    let crossed : p.constant *ℤ q.den ≡ q.constant *ℤ p.den = ratio_cross p.constant p.den q.constant q.den np.positive nq.positive s.constants in
    let ps = positive_size p.den np.positive in
    let qs = positive_size q.den nq.positive in
    let there = den_divides p q np nq (λ k. sizes_cross (factor_of p.parts k) p.den (factor_of q.parts k) q.den (cross k)) (sizes_cross p.constant p.den q.constant q.den crossed) ps.0 ps.1 in
    let back = den_divides q p nq np (λ k. sym (sizes_cross (factor_of p.parts k) p.den (factor_of q.parts k) q.den (cross k))) (sym (sizes_cross p.constant p.den q.constant q.den crossed)) qs.0 qs.1 in
    let dens : p.den ≡ q.den = size_same p.den q.den (let a = np.positive in omega (arith, ints)) (let a = nq.positive in omega (arith, ints)) (dvd_antisymm there back) in
    let factors : (k : ℕ) → factor_of p.parts k ≡ factor_of q.parts k =
    λ k. cancel_size (factor_of p.parts k) (factor_of q.parts k) p.den np.positive (ap (λ d. factor_of p.parts k *ℤ d) dens ∙ cross k) in
    let constants : p.constant ≡ q.constant = cancel_size p.constant q.constant p.den np.positive (ap (λ d. p.constant *ℤ d) dens ∙ crossed) in
    let parts : p.parts ≡ q.parts = same_parts p.parts q.parts np.rising nq.rising np.nonzero nq.nonzero factors in
    λ i. record { den = dens i; parts = parts i; constant = constants i }
