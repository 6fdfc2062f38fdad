-- Numbers that rise have a text.
use Rattle.std.specs.Prelude.{ℕ, suc, ◌^◌, ◌<◌, ◌≤◌, ◌≡◌, true, false, IsTrue, nat_le, List, [], ◌∷◌}
use Rattle.std.specs.List.{AllByRecursion, AllPairs}
use Rattle.std.specs.List.Sorted.{IsStrictlyIncreasing}
use Rattle.std.proofs.Common.{refl, sym, subst, arith}
use Rattle.std.proofs.lemmas.Bool.{and_from, le-leb}
use Rattle.std.proofs.lemmas.List.Kept.{AllPairs-from_increasing}
use Rattle.ae_codes.specs.Codes.{both, one, mapped, words}
use Rattle.ae_codes.specs.Fractions.{passing_by}
use Rattle.ae_codes.specs.Machines.{checked, machine}
use Rattle.ae_codes.specs.Numbers.{number, number_machine}
use Rattle.ae_codes.specs.Plans.{fixed, inside, sequence, sends, coded, coded_shaped, coded_fits}
use Rattle.ae_codes.specs.Rising.{top, Low, goes_on, numbers_at, some_shape, sure_number, rest_by, can_rise, rising_layers, some_rising, rising, lowest_of_all}
use Rattle.ae_codes.specs.Rows.{alone, empty}

abbrev Below : ℕ → ℕ → Type 0
Below x y = x < y

-- the numbers rise from lo on
abbrev Rises : ℕ → List ℕ → Type 0
Rises lo [] = Unit {0}
Rises lo (n ∷ ns) = (lo ≤ n) × (n ≤ top) × Rises (suc n) ns

rises : (lo n : ℕ) (ns : List ℕ) → AllPairs Below (n ∷ ns) → AllByRecursion (λ n. n < 2 ^ 64) (n ∷ ns) → lo ≤ n → Rises lo (n ∷ ns)
rises lo n [] p w l = let u = w.0 in (l, omega (arith, u), tt)
rises lo n (m ∷ ns) p w l =
    let u = w.0 in
    (l, omega (arith, u), rises (suc n) m ns (λ i j d a b. p (suc i) (suc j) d (omega (arith, a)) (omega (arith, b))) w.1 (p 0 1 m (omega arith) (omega arith)))

number_has : (i : Low suc) (n e : ℕ) → i.0 ≤ n → n ≤ top → IsTrue (goes_on suc n e) → (number (numbers_at suc i)).Fits (n, e)
unfolding number checked machine number_machine passing_by
number_has i n e l h g = (and_from (nat_le i.0 n) (nat_le n top) (le-leb i.0 n l) (le-leb n top h), g)

rest_has : (n m : ℕ) (ms : List ℕ) (d : Dec (suc n ≤ top)) → suc n ≤ top → ((i : Low suc) → i.0 ≡ suc n → (some_rising suc i).Fits (m ∷ ms))
    → ((rest_by suc true n d).make (coded {T = λ i. List ℕ} (some_shape suc) (sure_number suc) (rising_layers suc)) (coded_shaped {T = λ i. List ℕ} (some_shape suc) (sure_number suc) (rising_layers suc))).Fits (m ∷ ms)
unfolding rest_by inside some_rising
rest_has n m ms (yes l) h f = f (suc n, l) refl
rest_has n m ms (no k) h f = absurd (k h)

none_has : (n : ℕ) (d : Dec (suc n ≤ top))
    → ((rest_by suc false n d).make (coded {T = λ i. List ℕ} (some_shape suc) (sure_number suc) (rising_layers suc)) (coded_shaped {T = λ i. List ℕ} (some_shape suc) (sure_number suc) (rising_layers suc))).Fits []
unfolding rest_by fixed empty
none_has n d = refl

some_has : (n : ℕ) (ns : List ℕ) (i : Low suc) → Rises i.0 (n ∷ ns) → (some_rising suc i).Fits (n ∷ ns)
unfolding some_rising sends mapped sequence both fixed
some_has n [] i r =
    coded_fits {T = λ i. List ℕ} (some_shape suc) (sure_number suc) (rising_layers suc) i (n ∷ []) ((number_has i n 93 r.0 r.1 refl, none_has n (can_rise suc n)), refl)
some_has n (m ∷ ms) i r =
    let t = r.2 in
    let low = t.0 in
    let high = t.1 in
    let l : suc n ≤ top = omega (arith, low, high) in
    coded_fits {T = λ i. List ℕ} (some_shape suc) (sure_number suc) (rising_layers suc) i (n ∷ m ∷ ms)
    ((number_has i n 32 r.0 r.1 (le-leb (suc n) top l), rest_has n m ms (can_rise suc n) l (λ j q. some_has m ms j (subst (λ z. Rises z (m ∷ ms)) (sym q) r.2))), refl)

pub rising_has : (ns : List ℕ) → IsStrictlyIncreasing ns → AllByRecursion (λ n. n < 2 ^ 64) ns → (rising suc).Fits ns
unfolding rising mapped one alone words
rising_has [] s w = (refl, refl)
rising_has (n ∷ ns) s w = (some_has n ns (lowest_of_all suc) (rises 0 n ns (AllPairs-from_increasing (n ∷ ns) s) w (omega arith)), refl)
