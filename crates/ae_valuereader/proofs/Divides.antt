-- Common divisors of a denominator and of the numbers behind it.
use Rattle.std.proofs.Common.{ℕ, suc, ◌%◌, ◌≤◌, ◌<◌, Bool, true, false, not, ◌&&◌, IsTrue, nat_eq, nat_le, nat_lt, List, [], ◌∷◌, ◌++◌, ◌≡◌, refl, subst, arith}
use Rattle.std.specs.Int.{◌∣◌, IsGcd}
use Rattle.std.proofs.Math.Nat.{pos_of_dvd_of_pos, eq-one_of_dvd-one, dvd_trans}
use Rattle.std.proofs.lemmas.Nat.Gcd.{le_of_dvd, dvd_of_mod-eq-zero, mod-eq-zero_of_dvd}
use Rattle.std.proofs.lemmas.Bool.{eqb-true, eq-eqb, ltb-true, lt-ltb, leb-true, not-true}
use Rattle.ae_codes.specs.Codes.{limit}
use Rattle.ae_codes.specs.Fractions.{some_below, below_is, below_has, common, lowest}
use Rattle.ae_codes.specs.Numbers.{and_one, and_two, and_both, not_true, lies}
use Rattle.ae_num.specs.Forms.{divides_each}
use Rattle.ae_valuereader.proofs.Spanning.{both_ways}
use Rattle.ae_valuetext.specs.Parts.{is_lowest, shared, none_so}

abbrev pub Divides : ℕ → List ℕ → Type 0
Divides c ns = IsTrue (divides_each c ns)

pub head_divided : (c n : ℕ) (ns : List ℕ) → Divides c (n ∷ ns) → n % c ≡ 0
head_divided c n ns h = eqb-true (n % c) 0 (and_one (nat_eq (n % c) 0) (divides_each c ns) h)

pub tail_divided : (c n : ℕ) (ns : List ℕ) → Divides c (n ∷ ns) → Divides c ns
tail_divided c n ns h = and_two (nat_eq (n % c) 0) (divides_each c ns) h

pub divides_more : (c n : ℕ) (ns : List ℕ) → n % c ≡ 0 → Divides c ns → Divides c (n ∷ ns)
divides_more c n ns e h = and_both (nat_eq (n % c) 0) (divides_each c ns) (eq-eqb (n % c) 0 e) h

pub front_divided : (c : ℕ) (ns : List ℕ) (n : ℕ) → Divides c (ns ++ n ∷ []) → Divides c ns
front_divided c [] n h = refl
front_divided c (m ∷ ns) n h = divides_more c m ns (head_divided c m (ns ++ n ∷ []) h) (front_divided c ns n (tail_divided c m (ns ++ n ∷ []) h))

pub last_is_divided : (c : ℕ) (ns : List ℕ) (n : ℕ) → Divides c (ns ++ n ∷ []) → n % c ≡ 0
last_is_divided c [] n h = head_divided c n [] h
last_is_divided c (m ∷ ns) n h = last_is_divided c ns n (tail_divided c m (ns ++ n ∷ []) h)

pub divides_last : (c : ℕ) (ns : List ℕ) (n : ℕ) → Divides c ns → n % c ≡ 0 → Divides c (ns ++ n ∷ [])
divides_last c [] n h e = divides_more c n [] e refl
divides_last c (m ∷ ns) n h e = divides_more c m (ns ++ n ∷ []) (head_divided c m ns h) (divides_last c ns n (tail_divided c m ns h) e)

-- what divides a divisor divides what that one divides
pub divides_through : (c g : ℕ) (ns : List ℕ) → c ∣ g → Divides g ns → Divides c ns
divides_through c g [] d h = refl
divides_through c g (n ∷ ns) d h = divides_more c n ns (mod-eq-zero_of_dvd c (dvd_trans c d (dvd_of_mod-eq-zero g (head_divided g n ns h)))) (divides_through c g ns d (tail_divided g n ns h))

-- ---- no number above 1 divides all
pub none_divides : (den : ℕ) (ns : List ℕ) → 1 ≤ den → IsTrue (is_lowest den ns) → (c : ℕ) → 1 < c → Divides c (den ∷ ns) → ⊥
none_divides den ns p h c l d =
    let most = le_of_dvd p (dvd_of_mod-eq-zero c (head_divided c den ns d)) in
    let some = below_has (suc den) c (shared den ns) (omega (arith, most)) (and_both (nat_lt 1 c) (divides_each c (den ∷ ns)) (lt-ltb 1 c l) d) in
    let none = not-true (some_below (suc den) (shared den ns)) h in absurd cc

pub lowest_where : (den : ℕ) (ns : List ℕ) → ((c : ℕ) → 1 < c → Divides c (den ∷ ns) → ⊥) → IsTrue (is_lowest den ns)
lowest_where den ns n = none_so (some_below (suc den) (shared den ns)) (not_true (some_below (suc den) (shared den ns)) (λ h.
    let r = below_is (suc den) (shared den ns) h in
    n r.0 (ltb-true 1 r.0 (and_one (nat_lt 1 r.0) (divides_each r.0 (den ∷ ns)) r.2)) (and_two (nat_lt 1 r.0) (divides_each r.0 (den ∷ ns)) r.2)))

two_divided : (c a b : ℕ) → c ∣ a → c ∣ b → Divides c (a ∷ b ∷ [])
two_divided c a b p q = divides_more c a (b ∷ []) (mod-eq-zero_of_dvd c p) (divides_more c b [] (mod-eq-zero_of_dvd c q) refl)

-- of two numbers, by their greatest common divisor
pub coprime_by : (a b g : ℕ) → 1 ≤ a → IsGcd a b g → nat_eq g 1 ≡ is_lowest a (b ∷ [])
coprime_by a b g p i = both_ways (nat_eq g 1) (is_lowest a (b ∷ []))
    (λ e. lowest_where a (b ∷ []) (λ c l d.
    let one = eqb-true g 1 e in
    let is = eq-one_of_dvd-one (subst (λ z. c ∣ z) one (i.2 c (dvd_of_mod-eq-zero c (head_divided c a (b ∷ []) d)) (dvd_of_mod-eq-zero c (head_divided c b [] (tail_divided c a (b ∷ []) d))))) in
    omega (arith, is, l)))
    (λ h. eq-eqb g 1 (one_of (nat_lt 1 g) refl h))
  where
    some : 0 < g
    some = pos_of_dvd_of_pos i.0 p

    one_of : (t : Bool) → nat_lt 1 g ≡ t → IsTrue (is_lowest a (b ∷ [])) → g ≡ 1
    one_of true e h = absurd (none_divides a (b ∷ []) p h g (ltb-true 1 g e) (two_divided g a b i.0 i.1))
    one_of false e h = let n : ¬ (1 < g) = λ l. let t = lt-ltb 1 g l in absurd cc in let s = some in omega (arith, n, s)

-- ---- the greatest common divisor of all
abbrev pub GcdOf : ℕ → ℕ → List ℕ → Type 0
GcdOf g den ns = Divides g (den ∷ ns) × ((c : ℕ) → Divides c (den ∷ ns) → c ∣ g)

pub gcd_of_two : (den n g : ℕ) → IsGcd den n g → GcdOf g den (n ∷ [])
gcd_of_two den n g i = (two_divided g den n i.0 i.1, λ c d. i.2 c (dvd_of_mod-eq-zero c (head_divided c den (n ∷ []) d)) (dvd_of_mod-eq-zero c (head_divided c n [] (tail_divided c den (n ∷ []) d))))

pub gcd_of_more : (den g n h : ℕ) (ns : List ℕ) → GcdOf g den ns → IsGcd g n h → GcdOf h den (ns ++ n ∷ [])
gcd_of_more den g n h ns i j = (
  divides_last h (den ∷ ns) n (divides_through h g (den ∷ ns) j.0 i.0) (mod-eq-zero_of_dvd h j.1),
  λ c d. j.2 c (i.1 c (front_divided c (den ∷ ns) n d)) (dvd_of_mod-eq-zero c (last_is_divided c (den ∷ ns) n d)),
)

pub gcd_positive : (g n h : ℕ) → 1 ≤ g → IsGcd g n h → 1 ≤ h
gcd_positive g n h p i = pos_of_dvd_of_pos i.0 p

pub gcd_some : (den g : ℕ) (ns : List ℕ) → 1 ≤ den → GcdOf g den ns → 1 ≤ g
gcd_some den g ns p i = pos_of_dvd_of_pos (dvd_of_mod-eq-zero g (head_divided g den ns i.0)) p

-- with one number more there is no common divisor exactly where that one and the greatest so far have none
pub lowest_by_one : (den g n : ℕ) (ns : List ℕ) → 1 ≤ den → GcdOf g den ns → is_lowest den (ns ++ n ∷ []) ≡ is_lowest g (n ∷ [])
lowest_by_one den g n ns p i = both_ways (is_lowest den (ns ++ n ∷ [])) (is_lowest g (n ∷ []))
    (λ h. lowest_where g (n ∷ []) (λ c l d.
    none_divides den (ns ++ n ∷ []) p h c l (divides_last c (den ∷ ns) n (divides_through c g (den ∷ ns) (dvd_of_mod-eq-zero c (head_divided c g (n ∷ []) d)) i.0) (head_divided c n [] (tail_divided c g (n ∷ []) d)))))
    (λ h. lowest_where den (ns ++ n ∷ []) (λ c l d.
    none_divides g (n ∷ []) (gcd_some den g ns p i) h c l (two_divided c g n (i.1 c (front_divided c (den ∷ ns) n d)) (dvd_of_mod-eq-zero c (last_is_divided c (den ∷ ns) n d)))))

-- two numbers have no common divisor exactly where a fraction of them is in lowest terms
pub lowest_of_two : (g n : ℕ) → 1 ≤ g → (lies 1 limit n && is_lowest g (n ∷ [])) ≡ lowest g n
lowest_of_two g n p = both_ways (lies 1 limit n && is_lowest g (n ∷ [])) (lowest g n)
    (λ h. and_both (lies 1 limit n) (not (some_below (suc n) (common g n))) (and_one (lies 1 limit n) (is_lowest g (n ∷ [])) h)
    (none_so (some_below (suc n) (common g n)) (not_true (some_below (suc n) (common g n)) (λ t.
    let r = below_is (suc n) (common g n) t in
    let front = and_one (nat_lt 1 r.0 && nat_eq (g % r.0) 0) (nat_eq (n % r.0) 0) r.2 in
    none_divides g (n ∷ []) p (and_two (lies 1 limit n) (is_lowest g (n ∷ [])) h) r.0
    (ltb-true 1 r.0 (and_one (nat_lt 1 r.0) (nat_eq (g % r.0) 0) front))
    (divides_more r.0 g (n ∷ []) (eqb-true (g % r.0) 0 (and_two (nat_lt 1 r.0) (nat_eq (g % r.0) 0) front)) (divides_more r.0 n [] (eqb-true (n % r.0) 0 (and_two (nat_lt 1 r.0 && nat_eq (g % r.0) 0) (nat_eq (n % r.0) 0) r.2)) refl))))))
    (λ h.
    let l = and_one (lies 1 limit n) (not (some_below (suc n) (common g n))) h in
    let some = leb-true 1 n (and_one (nat_le 1 n) (nat_le n limit) l) in
    let none = not-true (some_below (suc n) (common g n)) (and_two (lies 1 limit n) (not (some_below (suc n) (common g n))) h) in
    and_both (lies 1 limit n) (is_lowest g (n ∷ [])) l (lowest_where g (n ∷ []) (λ c q d.
    let zero_left = head_divided c n [] (tail_divided c g (n ∷ []) d) in
    let most = le_of_dvd some (dvd_of_mod-eq-zero c zero_left) in
    let t = below_has (suc n) c (common g n) (omega (arith, most)) (and_both (nat_lt 1 c && nat_eq (g % c) 0) (nat_eq (n % c) 0)
    (and_both (nat_lt 1 c) (nat_eq (g % c) 0) (lt-ltb 1 c q) (eq-eqb (g % c) 0 (head_divided c g (n ∷ []) d))) (eq-eqb (n % c) 0 zero_left)) in
    absurd cc)))
