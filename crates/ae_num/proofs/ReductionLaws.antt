-- The greatest common divisor of many numbers.
use Rattle.std.specs.Prelude.{ℕ, ℤ, pos, ◌≡◌, ◌<◌, ◌≤◌, ◌+◌, ◌^◌, List, [], ◌∷◌, map, drop, length, unsigned_abs}
use Rattle.std.specs.List.{AllByRecursion}
use Rattle.std.specs.Int.{IsGcd}
use Rattle.std.proofs.Common.{arith, refl, sym, ap, ◌∙◌, subst, zero, suc, negsuc, get_or, drop-cons, add-one, take, ◌<ℤ◌, neg_ℤ, ◌/◌}
use Rattle.std.specs.Int.RustNames.{int_div}
use native.Mathlib.Nat.{div-le_self}
use borrow.Author.Differences.{ints}
use lib.Signed.{mag}
use Rattle.std.proofs.lemmas.Int.{to_z-of_z}
use Rattle.std.proofs.lemmas.Nat.Gcd.{dvd_trans, dvd_refl}
use mir.Syntax.{w128}
use mir.Val.{SFits, of_z, to_z}
use Rattle.std.proofs.lemmas.List.{drop_all}
use Rattle.ae_num.specs.declared.forms.Part.{Part}
use Rattle.ae_num.specs.Forms.{IsCommonDivisor}

pub fits_in : (z : ℤ) → unsigned_abs z < 2 ^ 127 → SFits w128 z
fits_in (pos n) h = record { sfits = h }
fits_in (negsuc n) h = record { sfits = omega arith }

-- a number within the limits is its bits, read back
pub read_back : (z : ℤ) → unsigned_abs z < 2 ^ 127 → to_z w128 (of_z w128 z) ≡ z
read_back z h = to_z-of_z w128 z (fits_in z h)

abbrev pub AllSmall : List Part → Type 0
AllSmall ps = AllByRecursion (λ n. n < 2 ^ 127) (map (λ p. unsigned_abs p.factor) ps)

pub small_at : (ps : List Part) (i : ℕ) (d : Part) → i < length ps → AllSmall ps → unsigned_abs (get_or ps i d).factor < 2 ^ 127
small_at [] i d h a = absurd (omega arith)
small_at (p ∷ ps) zero d h a = a.0
small_at (p ∷ ps) (suc i) d h a = small_at ps i d (omega arith) a.1

pub common_step : (a b d : ℕ) (ns : List ℕ) (g : ℕ) → IsGcd a b d → IsCommonDivisor (d ∷ ns) g → IsCommonDivisor (a ∷ b ∷ ns) g
common_step a b d ns g i h =
    let below = (h.0).0 in
    ((dvd_trans g below i.0, (dvd_trans g below i.1, (h.0).1)), λ x y. h.1 x (i.2 x y.0 (y.1).0, (y.1).1))

pub common_one : (d : ℕ) → IsCommonDivisor (d ∷ []) d
common_one d = ((dvd_refl d, tt), λ x y. y.0)

sizes_at : (ps : List Part) (i : ℕ) (d : Part) → i < length ps → map (λ p. unsigned_abs p.factor) (drop i ps) ≡ unsigned_abs (get_or ps i d).factor ∷ map (λ p. unsigned_abs p.factor) (drop (i + 1) ps)
sizes_at ps i d h = ap (map (λ p. unsigned_abs p.factor)) (drop-cons ps i d h ∙ ap (λ k. get_or ps i d ∷ drop k ps) (sym (add-one i)))

-- one more number in the divisor
pub common_next : (ps : List Part) (i : ℕ) (d : Part) (before after g : ℕ) → i < length ps → IsGcd before (unsigned_abs (get_or ps i d).factor) after
    → IsCommonDivisor (after ∷ map (λ p. unsigned_abs p.factor) (drop (i + 1) ps)) g → IsCommonDivisor (before ∷ map (λ p. unsigned_abs p.factor) (drop i ps)) g
common_next ps i d before after g h x y =
    subst (λ ns. IsCommonDivisor (before ∷ ns) g) (sym (sizes_at ps i d h)) (common_step before (unsigned_abs (get_or ps i d).factor) after _ g x y)

-- ---- the same, for numbers that are read back from their bits
pub small_read : (ps qs : List Part) (i : ℕ) (d : Part) → qs ≡ ps → i < length qs → AllSmall ps → unsigned_abs (to_z w128 (of_z w128 (get_or qs i d).factor)) < 2 ^ 127
small_read ps qs i d e h a =
    let small = small_at qs i d h (subst AllSmall (sym e) a) in
    subst (λ z. unsigned_abs z < 2 ^ 127) (sym (read_back (get_or qs i d).factor small)) small

pub next_gcd : (ps qs : List Part) (i : ℕ) (d : Part) (b : ℕ) (r : ℤ) (g : ℕ) → qs ≡ ps → i < length qs → AllSmall ps → unsigned_abs r < 2 ^ 127
    → IsGcd b (unsigned_abs (to_z w128 (of_z w128 (get_or qs i d).factor))) (unsigned_abs r)
    → IsCommonDivisor (unsigned_abs (to_z w128 (of_z w128 r)) ∷ map (λ p. unsigned_abs p.factor) (drop (i + 1) ps)) g → IsCommonDivisor (b ∷ map (λ p. unsigned_abs p.factor) (drop i ps)) g
next_gcd ps qs i d b r g e h a s x y =
    let small = small_at qs i d h (subst AllSmall (sym e) a) in
    let there : unsigned_abs (to_z w128 (of_z w128 (get_or qs i d).factor)) ≡ unsigned_abs (get_or ps i d).factor =
    ap unsigned_abs (read_back (get_or qs i d).factor small) ∙ ap (λ t. unsigned_abs (get_or t i d).factor) e in
    common_next ps i d b (unsigned_abs r) g (subst (λ t. i < length t) e h) (subst (λ k. IsGcd b k (unsigned_abs r)) there x)
    (subst (λ k. IsCommonDivisor (k ∷ map (λ p. unsigned_abs p.factor) (drop (i + 1) ps)) g) (ap unsigned_abs (read_back r s)) y)

pub start_gcd : (den constant r : ℤ) (ns : List ℕ) (g : ℕ) → unsigned_abs den < 2 ^ 127 → unsigned_abs constant < 2 ^ 127 → unsigned_abs r < 2 ^ 127
    → IsGcd (unsigned_abs (to_z w128 (of_z w128 den))) (unsigned_abs (to_z w128 (of_z w128 constant))) (unsigned_abs r)
    → IsCommonDivisor (unsigned_abs (to_z w128 (of_z w128 r)) ∷ ns) g → IsCommonDivisor (unsigned_abs den ∷ unsigned_abs constant ∷ ns) g
start_gcd den constant r ns g p q s x y =
    let moved = subst (λ k. IsGcd k (unsigned_abs constant) (unsigned_abs r)) (ap unsigned_abs (read_back den p)) (subst (λ k. IsGcd (unsigned_abs (to_z w128 (of_z w128 den))) k (unsigned_abs r)) (ap unsigned_abs (read_back constant q)) x) in
    common_step (unsigned_abs den) (unsigned_abs constant) (unsigned_abs r) ns g moved (subst (λ k. IsCommonDivisor (k ∷ ns) g) (ap unsigned_abs (read_back r s)) y)

pub all_read : (ps : List Part) (i n g : ℕ) → length ps ≤ i → n ≡ g → IsCommonDivisor (n ∷ map (λ p. unsigned_abs p.factor) (drop i ps)) g
all_read ps i n g h e = subst (λ t. IsCommonDivisor (n ∷ map (λ p. unsigned_abs p.factor) t) g) (sym (drop_all i ps h)) (subst (λ k. IsCommonDivisor (n ∷ []) k) e (common_one n))

-- ---- quotients
quotient_fits : (x d : ℤ) → SFits w128 x → pos 0 <ℤ d → SFits w128 (int_div x d)
quotient_fits (pos a) (pos b) f p = record { sfits = let l = div-le_self a b in let s = f.sfits in omega arith }
quotient_fits (pos a) (negsuc b) f p = absurd (omega (arith, ints))
quotient_fits (negsuc a) (pos b) f p = record { sfits = let l = div-le_self (suc a) b in let s = f.sfits in let m = small_neg (suc a / b) a l in omega arith }
  where
    small_neg : (r a : ℕ) → r ≤ suc a → mag (neg_ℤ (pos r)) ≤ a
    small_neg zero a h = omega arith
    small_neg (suc r) a h = omega arith
quotient_fits (negsuc a) (negsuc b) f p = absurd (omega (arith, ints))

pub quotient_read : (x d : ℤ) → SFits w128 x → SFits w128 d → pos 0 <ℤ d → to_z w128 (of_z w128 (int_div (to_z w128 (of_z w128 x)) (to_z w128 (of_z w128 d)))) ≡ int_div x d
quotient_read x d f g p = (λ i. to_z w128 (of_z w128 (int_div (to_z-of_z w128 x f i) (to_z-of_z w128 d g i)))) ∙ to_z-of_z w128 (int_div x d) (quotient_fits x d f p)

pub take_all : (ps : List Part) (i : ℕ) → length ps ≤ i → take i ps ≡ ps
take_all [] zero h = refl
take_all [] (suc i) h = refl
take_all (p ∷ ps) zero h = absurd (omega arith)
take_all (p ∷ ps) (suc i) h = ap (λ t. p ∷ t) (take_all ps i (omega arith))

pub division_ok : (x d : ℤ) → unsigned_abs x < 2 ^ 127 → unsigned_abs d < 2 ^ 127 → pos 0 <ℤ d → (0 < of_z w128 d) × SFits w128 (int_div (to_z w128 (of_z w128 x)) (to_z w128 (of_z w128 d)))
division_ok x d s t p = (some d p, subst (SFits w128) (λ i. int_div (sym (read_back x s) i) (sym (read_back d t) i)) (quotient_fits x d (fits_in x s) p))
  where
    some : (d : ℤ) → pos 0 <ℤ d → 0 < of_z w128 d
    some (pos n) p = omega (arith, ints)
    some (negsuc n) p = absurd (omega (arith, ints))
