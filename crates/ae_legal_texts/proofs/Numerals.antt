-- Numerals in lowest terms, within the limits, have texts.
use Rattle.std.specs.Prelude.{ℕ, zero, suc, ℤ, pos, ◌%◌, ◌^◌, ◌<◌, ◌≤◌, ◌≡◌, Bool, true, false, ◌&&◌, ◌||◌, not, IsTrue, nat_eq, nat_le, nat_lt, int_lt, unsigned_abs}
use lib.IntN.{negsuc}
use Rattle.std.specs.Int.{IsGcd}
use Rattle.std.proofs.Common.{refl, sym, ap, ◌∙◌, arith}
use Rattle.std.proofs.Math.Nat.{eq-one_of_dvd-one}
use Rattle.std.proofs.lemmas.Nat.Gcd.{dvd_of_mod-eq-zero}
use Rattle.std.proofs.lemmas.Bool.{and_parts, and_from, eqb-true, ne_eqb, le-leb, ltb-true, lt-ltb, not-true}
use Rattle.ae_base.proofs.Tests.{false_true, three_parts, not_where}
use Rattle.ae_codes.specs.Closers.{Close, close_end, closers}
use Rattle.ae_codes.specs.Codes.{both, one, mapped, words, limit}
use Rattle.ae_codes.specs.Fractions.{or_two, lowest, common, below_is, some_below, passing, passing_by, denominators}
use Rattle.ae_codes.specs.Integers as integers
use Rattle.ae_codes.specs.Integers.{integer, negate}
use Rattle.ae_codes.specs.Machines.{checked, machine}
use Rattle.ae_codes.specs.Numbers.{number_machine, zero_small, one_small, lies}
use Rattle.ae_codes.specs.Numerals.{whole, over, numeral, signed, plain, below}
use Rattle.ae_codes.specs.Rows.{alone, empty}
use Rattle.ae_core.specs.Sorts.{within, numeral_ok}
use Rattle.ae_prooftext.specs.Numbers.{num_of, last_of, numeral_to, numeral_end, plain_from, numeral_from, numerals}
use Rattle.ae_legal_texts.specs.Numbers.{IsWithin, factor}

-- a number of 127 bits, from lo on
lies_so : (lo n : ℕ) → lo ≤ n → n < 2 ^ 127 → lies lo limit n ≡ true
lies_so lo n l h = and_from (nat_le lo n) (nat_le n limit) (le-leb lo n l) (le-leb n limit (omega (arith, h)))

no_common : (top d : ℕ) → IsGcd top d 1 → some_below (suc d) (common top d) ≡ false
no_common top d g = not-true (some_below (suc d) (common top d)) (not_where (some_below (suc d) (common top d)) (λ h.
    let r = below_is (suc d) (common top d) h in
    let p = three_parts (nat_lt 1 r.0) (nat_eq (top % r.0) 0) (nat_eq (d % r.0) 0) r.2 in
    let one = eq-one_of_dvd-one (g.2 r.0 (dvd_of_mod-eq-zero r.0 (eqb-true (top % r.0) 0 p.1)) (dvd_of_mod-eq-zero r.0 (eqb-true (d % r.0) 0 p.2))) in
    let l = ltb-true 1 r.0 p.0 in
    omega (arith, one, l)))

pub lowest_so : (top d : ℕ) → 1 ≤ d → d < 2 ^ 127 → IsGcd top d 1 → lowest top d ≡ true
lowest_so top d l h g = and_from (nat_le 1 d && nat_le d limit) (not (some_below (suc d) (common top d))) (lies_so 1 d l h) (ap not (no_common top d g))

module _ (k : Close) (no_stroke : closers k.one k.two 47 ≡ false) where
  abbrev ends : ℕ → Bool
  ends = closers k.one k.two

  no_stroke_end : (e : ℕ) → IsTrue (ends e) → nat_eq e 47 ≡ false
  no_stroke_end e c = ne_eqb e 47 (λ q. false_true (sym no_stroke ∙ ap ends (sym q) ∙ c))

  below_whole : (b : Bool) (n : ℕ) → b ≡ false → (below ends k.digits (close_end k) b n).Fits whole
  unfolding below empty
  below_whole true n e = absurd (false_true (sym e))
  below_whole false n e = refl

  below_over : (b : Bool) (n d e : ℕ) → b ≡ true → lowest n d ≡ true → IsTrue (ends e) → (below ends k.digits (close_end k) b n).Fits (over (d, e))
  unfolding below mapped machine number_machine denominators passing passing_by
  below_over true n d e q l c = ((l, c), refl)
  below_over false n d e q l c = absurd (false_true q)

  abbrev IsPlain : ℕ → ℤ → Bool → Type 0
  IsPlain n b true = lowest n (unsigned_abs b) ≡ true
  IsPlain n b false = Unit {0}

  plain_fits : (lo : ℕ) (small : lo ≤ 1) (n : ℕ) (b : ℤ) (r : Bool) (e : ℕ) → lo ≤ n → n < 2 ^ 127 → IsPlain n b r → IsTrue (ends e) → (plain ends k.digits (close_end k) lo small).Fits (plain_from n b r e)
  unfolding plain both machine number_machine
  plain_fits lo small n b true e l h p c = ((lies_so lo n l h, refl), below_over (nat_eq 47 47) n (unsigned_abs b) e refl p c)
  plain_fits lo small n b false e l h p c = ((lies_so lo n l h, or_two (nat_eq e 47) (ends e) c), below_whole (nat_eq e 47) n (no_stroke_end e c))

  pub numeral_fits : (a b : ℤ) (r : Bool) (e : ℕ) → unsigned_abs a < 2 ^ 127 → IsPlain (unsigned_abs a) b r → IsTrue (ends e) → (numerals k).Fits (numeral_from a b r e)
  unfolding numeral checked signed one both alone words
  numeral_fits (pos n) b r e h p c = plain_fits 0 zero_small n b r e (omega arith) h p c
  numeral_fits (negsuc n) b r e h p c = (refl, plain_fits 1 one_small (suc n) b r e (omega arith) h p c)

  -- ---- whole numbers
  pub integer_fits : (z : ℤ) (e : ℕ) → IsWithin (factor z) → IsTrue (ends e) → (integer ends k.digits (close_end k)).Fits (z, e)
  unfolding integer mapped checked integers.whole one both alone words machine number_machine
  integer_fits (pos n) e w c = ((lies_so 0 n (omega arith) (ltb-true n (2 ^ 127) w), c), refl)
  integer_fits (negsuc n) e w c = ((refl, (lies_so 1 (suc n) (omega arith) (ltb-true (suc n) (2 ^ 127) w), c)), refl)

-- ---- what is cut comes back
abbrev pub Bottom : ℤ → Bool → Type 0
Bottom b true = pos (unsigned_abs b) ≡ b
Bottom b false = pos 1 ≡ b

plain_bottom : (z : ℤ) (n : ℕ) (b : ℤ) (r : Bool) (e : ℕ) → Bottom b r → num_of z (plain_from n b r e).1 ≡ record { top = z; bottom = b; real = r }
plain_bottom z n b true e q = λ i. record { top = z; bottom = q i; real = true }
plain_bottom z n b false e q = λ i. record { top = z; bottom = q i; real = false }

plain_top : (n : ℕ) (b : ℤ) (r : Bool) (e : ℕ) → (plain_from n b r e).0.0 ≡ n
plain_top n b true e = refl
plain_top n b false e = refl

plain_last : (n : ℕ) (b : ℤ) (r : Bool) (e : ℕ) → last_of (plain_from n b r e).0.1 (plain_from n b r e).1 ≡ e
plain_last n b true e = refl
plain_last n b false e = refl

pub numeral_comes : (a b : ℤ) (r : Bool) (e : ℕ) → Bottom b r → numeral_to (numeral_from a b r e) ≡ record { top = a; bottom = b; real = r }
numeral_comes (pos n) b r e q = ap (λ m. num_of (pos m) (plain_from n b r e).1) (plain_top n b r e) ∙ plain_bottom (pos n) n b r e q
numeral_comes (negsuc n) b r e q = ap (λ m. num_of (negate m) (plain_from (suc n) b r e).1) (plain_top (suc n) b r e) ∙ plain_bottom (negsuc n) (suc n) b r e q

pub numeral_last : (a b : ℤ) (r : Bool) (e : ℕ) → numeral_end (numeral_from a b r e) ≡ e
numeral_last (pos n) b r e = plain_last n b r e
numeral_last (negsuc n) b r e = plain_last (suc n) b r e

-- ---- what a well sorted numeral says
size_of : (z : ℤ) → within z ≡ true → unsigned_abs z < 2 ^ 127
size_of z w = ltb-true (unsigned_abs z) (2 ^ 127) w

bottom_by : (b : ℤ) (r : Bool) → int_lt (pos 0) b ≡ true → (r || not (int_lt (pos 1) b)) ≡ true → Bottom b r × (1 ≤ unsigned_abs b)
bottom_by (pos zero) r l h = false_true l
bottom_by (pos (suc n)) true l h = (refl, omega arith)
bottom_by (pos (suc zero)) false l h = (refl, omega arith)
bottom_by (pos (suc (suc n))) false l h = let q : nat_lt 1 (suc (suc n)) ≡ true = lt-ltb 1 (suc (suc n)) (omega arith) in false_true (sym (ap not q) ∙ h)
bottom_by (negsuc n) r l h = false_true l

pub record Stands (a b : ℤ) (r : Bool) : Type 0 where
  pub size : unsigned_abs a < 2 ^ 127
  pub plain : (k : Close) (no_stroke : closers k.one k.two 47 ≡ false) → IsPlain k no_stroke (unsigned_abs a) b r
  pub bottom : Bottom b r

plain_by : (k : Close) (no_stroke : closers k.one k.two 47 ≡ false) (n : ℕ) (b : ℤ) (r : Bool) → lowest n (unsigned_abs b) ≡ true → IsPlain k no_stroke n b r
plain_by k s n b true l = l
plain_by k s n b false l = tt

pub stands : (a b : ℤ) (r : Bool) → numeral_ok a b r ≡ true → IsGcd (unsigned_abs a) (unsigned_abs b) 1 → Stands a b r
stands a b r o g =
    let p = and_parts (within a && within b && int_lt (pos 0) b) (r || not (int_lt (pos 1) b)) o in
    let q = three_parts (within a) (within b) (int_lt (pos 0) b) p.0 in
    let m = bottom_by b r q.2 p.1 in
    record { size = size_of a q.0; plain = λ k s. plain_by k s (unsigned_abs a) b r (lowest_so (unsigned_abs a) (unsigned_abs b) m.1 (size_of b q.1) g); bottom = m.0 }
