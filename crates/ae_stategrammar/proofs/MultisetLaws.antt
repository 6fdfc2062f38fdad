-- Which multisets, and which sides of rules and pairs, have a text: those that rise.
use Rattle.std.specs.Prelude.{ℕ, suc, ◌≤◌, ◌<◌, ◌^◌, ◌&&◌, true, IsTrue, nat_eq, nat_le, List, [], ◌∷◌, ◌≡◌, length}
use mathlib.Core.Path.{refl, ap}
use native.Mathlib.Omega.{arith}
use Rattle.std.proofs.lemmas.Bool.{le-leb, leb-true}
use Rattle.ae_codes.specs.Codes.{Code, both, one, mapped, words}
use Rattle.ae_codes.specs.Fractions.{or_two, passing_by}
use Rattle.ae_codes.specs.Machines.{checked, machine}
use Rattle.ae_codes.specs.Numbers.{number, number_machine, and_both, and_one, and_two, or_one}
use Rattle.ae_codes.specs.Nested.{Shaped}
use Rattle.ae_codes.specs.Plans.{fixed, inside, sequence, sends, coded_fits, fits_coded, coded_shaped}
use Rattle.ae_codes.specs.Rising as rising
use Rattle.ae_codes.specs.Rising.{top, from_low, goes_on, can_rise}
use Rattle.ae_codes.specs.Rows.{alone, empty}
use Rattle.ae_stategrammar.specs.Fitting.{Rises}
use Rattle.ae_core.specs.declared.problems.AcSymbol.{AcSymbol}
use Rattle.ae_core.specs.declared.problems.Signature.{Signature}
use Rattle.ae_stategrammar.specs.Multisets.{same_number, multiset}
use Rattle.ae_stategrammar.specs.Sides.{SidesOf, sides, symbol}

abbrev Low : Type 0
Low = rising.Low same_number

abbrev some : Low → Code (List ℕ)
some = rising.some_rising same_number

shaped : (i : Low) → Shaped (rising.some_shape same_number i) (rising.sure_number same_number i) (some i)
unfolding rising.some_rising
shaped = coded_shaped {T = λ i. List ℕ} (rising.some_shape same_number) (rising.sure_number same_number) (rising.rising_layers same_number)

closes : (n : ℕ) (ns : List ℕ) → n < 2 ^ 64 → IsTrue (goes_on same_number n (rising.close_by same_number ns))
closes n [] l = or_one (nat_eq 93 93) (nat_eq 93 32 && nat_le n top) refl
closes n (m ∷ ms) l = or_two (nat_eq 32 93) (nat_eq 32 32 && nat_le n top) (le-leb n top (omega (arith, l)))

number_fits : (i : Low) (n : ℕ) (ns : List ℕ) → i.0 ≤ n → n < 2 ^ 64 → (number (rising.numbers_at same_number i)).Fits (n, rising.close_by same_number ns)
unfolding number checked machine number_machine passing_by
number_fits i n ns l h = (and_both (nat_le i.0 n) (nat_le n top) (le-leb i.0 n l) (le-leb n top (omega (arith, h))), closes n ns h)

rest_fits : (n : ℕ) (d : Dec (n ≤ top)) (ns : List ℕ) → n < 2 ^ 64 → ((l : n ≤ top) → (some (n, l)).Fits ns) → ((rising.rest_by same_number true n d).make some shaped).Fits ns
unfolding rising.rest_by inside
rest_fits n (yes l) ns h f = f l
rest_fits n (no m) ns h f = absurd (m (omega (arith, h)))

made : (i : Low) (n : ℕ) (ns : List ℕ) → ((rising.raw_rising same_number i).make some shaped).Fits (rising.rising_from same_number (n ∷ ns)) → (some i).Fits (n ∷ ns)
unfolding rising.some_rising shaped sends mapped
made i n ns f = coded_fits {T = λ i. List ℕ} (rising.some_shape same_number) (rising.sure_number same_number) (rising.rising_layers same_number) i (n ∷ ns) (f, refl)

some_fits : (i : Low) (n : ℕ) (ns : List ℕ) → Rises i.0 (n ∷ ns) → (some i).Fits (n ∷ ns)
unfolding sequence both fixed
some_fits i n [] r = made i n [] (number_fits i n [] r.0 r.1, rising.rest_none same_number n (can_rise same_number n) some shaped)
some_fits i n (m ∷ ms) r = made i n (m ∷ ms) (number_fits i n (m ∷ ms) r.0 r.1, rest_fits n (can_rise same_number n) (m ∷ ms) r.1 (λ l. some_fits (n, l) m ms r.2))

pub multiset_fits : (ns : List ℕ) → Rises 0 ns → multiset.Fits ns
unfolding rising.rising mapped one alone words
multiset_fits [] r = (refl, refl)
multiset_fits (n ∷ ns) r = (some_fits (rising.lowest_of_all same_number) n ns r, refl)

-- ---- and no others
raw_fits : (i : Low) (n : ℕ) (ns : List ℕ) → (some i).Fits (n ∷ ns) → ((rising.raw_rising same_number i).make some shaped).Fits (rising.rising_from same_number (n ∷ ns))
unfolding rising.some_rising shaped sends mapped
raw_fits i n ns f = (fits_coded {T = λ i. List ℕ} (rising.some_shape same_number) (rising.sure_number same_number) (rising.rising_layers same_number) i (n ∷ ns) f).0

number_rises : (i : Low) (n e : ℕ) → (number (rising.numbers_at same_number i)).Fits (n, e) → (i.0 ≤ n) × (n < 2 ^ 64)
unfolding number checked machine number_machine passing_by
number_rises i n e f =
    let l = leb-true i.0 n (and_one (nat_le i.0 n) (nat_le n top) f.0) in
    let h = leb-true n top (and_two (nat_le i.0 n) (nat_le n top) f.0) in
    (l, omega (arith, h))

rest_inner : (n : ℕ) (d : Dec (n ≤ top)) (m : ℕ) (ms : List ℕ) → ((rising.rest_by same_number true n d).make some shaped).Fits (m ∷ ms) → (l : n ≤ top) × (some (n, l)).Fits (m ∷ ms)
unfolding rising.rest_by inside fixed empty
rest_inner n (yes l) m ms f = (l, f)
rest_inner n (no k) m ms f = absurd (let z : suc (length ms) ≡ 0 = ap length f in omega arith)

some_rise : (i : Low) (n : ℕ) (ns : List ℕ) → (some i).Fits (n ∷ ns) → Rises i.0 (n ∷ ns)
unfolding sequence both fixed
some_rise i n [] f = let t = number_rises i n 93 (raw_fits i n [] f).0 in (t.0, t.1, tt)
some_rise i n (m ∷ ms) f =
    let g = raw_fits i n (m ∷ ms) f in
    let t = number_rises i n 32 g.0 in
    let r = rest_inner n (can_rise same_number n) m ms g.1 in
    (t.0, t.1, some_rise (n, r.0) m ms r.1)

pub multiset_rises : (ns : List ℕ) → multiset.Fits ns → Rises 0 ns
unfolding rising.rising mapped one alone words
multiset_rises [] f = tt
multiset_rises (n ∷ ns) f = some_rise (rising.lowest_of_all same_number) n ns f.0

-- ---- sides
pub sides_fit : (sig : Signature) (s : AcSymbol) (left right : List ℕ) → (symbol sig).Fits s → Rises 0 left → Rises 0 right → (sides sig).Fits (s, (left, right))
unfolding sides mapped both alone words
sides_fit sig s left right f l r = ((f, (refl, (multiset_fits left l, (refl, (multiset_fits right r, refl))))), refl)

pub sides_rise : (sig : Signature) (v : SidesOf sig) → (sides sig).Fits v → (symbol sig).Fits v.0 × Rises 0 v.1.0 × Rises 0 v.1.1
unfolding sides mapped both
sides_rise sig v f = (f.0.0, multiset_rises v.1.0 f.0.1.1.0, multiset_rises v.1.1 f.0.1.1.1.1.0)
