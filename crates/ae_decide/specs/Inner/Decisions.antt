-- Decisions that the tests are built with: normal forms, and the order of multisets.
use Rattle.std.specs.Prelude.{ℕ, zero, suc, ℤ, pos, ◌<◌, ◌≢◌, ◌⊎◌, ◌<ℤ◌, List, [], ◌∷◌}
use Rattle.std.specs.Int.{◌∣◌}
use Rattle.std.specs.List.{AllByRecursion}
use Rattle.std.proofs.Common.{inl, inr}
use Rattle.std.proofs.Math.Nat.{eq-one_of_dvd-one}
use Rattle.std.proofs.lemmas.Nat.Gcd.{dvd-zero, dvd_trans}
use lib.IntN.{ℤ_discrete, negsuc}
use mathlib.Core.Path.{refl, subst}
use native.Mathlib.Decide.{map_dec, dec_lt, ℕ_discrete}
use native.Mathlib.Omega.{arith}
use borrow.Author.Differences.{ints}
use Rattle.ae_math.proofs.Divisors.{gcd_exists}
use Rattle.ae_num.specs.Forms.{IsNormal, IsRising, IsCommonDivisor, DividesAll, sizes}
use Rattle.ae_num.specs.declared.forms.Lin.{Lin}
use Rattle.ae_num.specs.declared.forms.Part.{Part}
use Rattle.ae_multiset.specs.Multisets.{IsSame, IsLess}
use Rattle.ae_multiset.proofs.Comparing.{less_total, less_differs, less_then}

pub both : {A B : Type 0} → Dec A → Dec B → Dec (A × B)
both (yes x) (yes z) = yes (x, z)
both (yes x) (no n) = no (λ p. n p.1)
both (no n) d = no (λ p. n p.0)

pub denied : {A : Type 0} → Dec A → Dec (¬ A)
denied (yes x) = no (λ n. n x)
denied (no n) = yes n

pub of_each : {A : Type 0} (P : A → Type 0) → ((x : A) → Dec (P x)) → (xs : List A) → Dec (AllByRecursion P xs)
of_each P d [] = yes tt
of_each P d (x ∷ xs) = both (d x) (of_each P d xs)

-- ---- numbers
divides_more : (g k : ℕ) (ns : List ℕ) → k ∣ g → DividesAll g ns → DividesAll k ns
divides_more g k [] h a = tt
divides_more g k (n ∷ ns) h a = (dvd_trans k h a.0, divides_more g k ns h a.1)

pub divisor_of : (ns : List ℕ) → (g : ℕ) × IsCommonDivisor ns g
divisor_of [] = (0, (tt, λ d a. dvd-zero d))
divisor_of (n ∷ ns) =
    let r = divisor_of ns in
    let g = gcd_exists n r.0 in
    (g.0, ((g.1.0, divides_more r.0 g.0 ns (g.1.1) (r.1).0), λ d a. g.1.2 d a.0 ((r.1).1 d a.1)))

is_lowest : (ns : List ℕ) → Dec (IsCommonDivisor ns 1)
is_lowest ns = go (divisor_of ns)
  where
    go : (g : ℕ) × IsCommonDivisor ns g → Dec (IsCommonDivisor ns 1)
    go (g, c) = map_dec (λ e. subst (IsCommonDivisor ns) e c) (λ d. eq-one_of_dvd-one (d.1 g c.0)) (ℕ_discrete g 1)

is_positive : (z : ℤ) → Dec (pos 0 <ℤ z)
is_positive (pos zero) = no (λ h. omega (arith, ints, h))
is_positive (pos (suc n)) = yes (omega (arith, ints))
is_positive (negsuc n) = no (λ h. omega (arith, ints, h))

is_rising : (ps : List Part) → Dec (IsRising ps)
is_rising [] = yes tt
is_rising (p ∷ ps) = both (of_each (λ q. p.key < q.key) (λ q. dec_lt p.key q.key) ps) (is_rising ps)

pub normal_decided : (l : Lin) → Dec (IsNormal l)
normal_decided l =
    map_dec (λ (a, (b, (c, (d, e)))). record { positive = a; rising = b; nonzero = c; lowest = d; within = e })
    (λ n. (n.positive, (n.rising, (n.nonzero, (n.lowest, n.within)))))
    (both (is_positive l.den)
    (both (is_rising l.parts)
    (both (of_each (λ p. p.factor ≢ pos 0) (λ p. denied (ℤ_discrete p.factor (pos 0))) l.parts)
    (both (is_lowest (sizes l.den l.parts l.constant))
    (of_each (λ n. n < 170141183460469231731687303715884105728) (λ n. dec_lt n 170141183460469231731687303715884105728) (sizes l.den l.parts l.constant))))))

-- ---- multisets
pub less_decided : (a b : List ℕ) → Dec (IsLess a b)
less_decided a b = go (less_total a b)
  where
    go : IsLess a b ⊎ IsSame a b ⊎ IsLess b a → Dec (IsLess a b)
    go (inl l) = yes l
    go (inr (inl s)) = no (λ l. less_differs a b l s)
    go (inr (inr g)) = no (λ l. less_differs a a (less_then l g) (record { each = λ x. refl }))
