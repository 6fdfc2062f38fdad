-- Numbers between two bounds: which digits go on to one of them.
use Rattle.std.proofs.Common.{ℕ, zero, suc, ◌+◌, ◌*◌, ◌-◌, ◌/◌, ◌≤◌, ◌<◌, Bool, true, false, ◌&&◌, ◌||◌, IsTrue, nat_le, nat_lt, List, ◌≡◌, refl, sym, ap, ◌∙◌, subst, arith}
use mathlib.Core.Logic.{inl, inr}
use Rattle.std.proofs.lemmas.Bool.{leb-true, le-leb}
use Rattle.ae_codes.specs.Codes.{limit, is_digit}
use Rattle.ae_codes.specs.Fractions.{some_below, below_is, below_has, or_cases, or_two, reach, lives}
use Rattle.ae_codes.specs.Machines.{run}
use Rattle.ae_codes.specs.Numbers.{Digits, digit_step, and_one, and_two, and_both, or_one, not_true, lies}
use Rattle.ae_valuereader.specs.Spans.{spans, goes, goes_by}
use Rattle.ae_valuereader.specs.declared.spans.Span.{Span}

-- two truths that follow from each other
pub both_ways : (a b : Bool) → (IsTrue a → IsTrue b) → (IsTrue b → IsTrue a) → a ≡ b
both_ways true b f g = sym (f refl)
both_ways false true f g = g refl
both_ways false false f g = refl

pub is_between : (low high n : ℕ) → IsTrue (lies low high n) → (low ≤ n) × (n ≤ high)
is_between low high n h = (leb-true low n (and_one (nat_le low n) (nat_le n high) h), leb-true n high (and_two (nat_le low n) (nat_le n high) h))

pub lies_between : (low high n : ℕ) → low ≤ n → n ≤ high → IsTrue (lies low high n)
lies_between low high n l h = and_both (nat_le low n) (nat_le n high) (le-leb low n l) (le-leb n high h)

-- ---- one digit more
-- the last digit that leads into the bounds
digit_in : (a b n : ℕ) → a ≤ b → a / 10 ≤ n → n ≤ b / 10 → (x : ℕ) × (x < 10) × (a ≤ n * 10 + x) × (n * 10 + x ≤ b)
digit_in a b n r l h = by (nat_le a (n * 10)) refl
  where
    by : (t : Bool) → nat_le a (n * 10) ≡ t → (x : ℕ) × (x < 10) × (a ≤ n * 10 + x) × (n * 10 + x ≤ b)
    by true e = let q = leb-true a (n * 10) e in (0, omega arith, omega (arith, q), omega (arith, h))
    by false e = let q : ¬ (a ≤ n * 10) = λ l. let t = le-leb a (n * 10) l in absurd cc in (a - n * 10, omega (arith, q, l), omega (arith, q), omega (arith, q, r))

module _ (k a b n : ℕ) (r : a ≤ b) (deeper : some_below 10 (λ x. spans k (a / 10) (b / 10) (n * 10 + x)) ≡ spans k (a / 10 / 10) (b / 10 / 10) n) where
  ten_up : IsTrue (some_below 10 (λ x. lies a b (n * 10 + x) || spans k (a / 10) (b / 10) (n * 10 + x))) → IsTrue (lies (a / 10) (b / 10) n || spans k (a / 10 / 10) (b / 10 / 10) n)
  ten_up h =
      let w = below_is 10 (λ x. lies a b (n * 10 + x) || spans k (a / 10) (b / 10) (n * 10 + x)) h in
      let x = w.0 in
      let small = w.1 in
      elim (or_cases (lies a b (n * 10 + x)) (spans k (a / 10) (b / 10) (n * 10 + x)) w.2) [
        | inl i ↦
            let l = is_between a b (n * 10 + x) i in
            let p = l.0 in
            let q = l.1 in
            or_one (lies (a / 10) (b / 10) n) (spans k (a / 10 / 10) (b / 10 / 10) n) (lies_between (a / 10) (b / 10) n (omega (arith, p, small)) (omega (arith, q, small)))
        | inr i ↦ or_two (lies (a / 10) (b / 10) n) (spans k (a / 10 / 10) (b / 10 / 10) n) (subst IsTrue deeper (below_has 10 x (λ x. spans k (a / 10) (b / 10) (n * 10 + x)) small i))
      ]

  ten_down : IsTrue (lies (a / 10) (b / 10) n || spans k (a / 10 / 10) (b / 10 / 10) n) → IsTrue (some_below 10 (λ x. lies a b (n * 10 + x) || spans k (a / 10) (b / 10) (n * 10 + x)))
  ten_down h = elim (or_cases (lies (a / 10) (b / 10) n) (spans k (a / 10 / 10) (b / 10 / 10) n) h) [
    | inl i ↦
        let l = is_between (a / 10) (b / 10) n i in
        let d = digit_in a b n r l.0 l.1 in
        below_has 10 d.0 (λ x. lies a b (n * 10 + x) || spans k (a / 10) (b / 10) (n * 10 + x)) d.1 (or_one (lies a b (n * 10 + d.0)) (spans k (a / 10) (b / 10) (n * 10 + d.0)) (lies_between a b (n * 10 + d.0) d.2 d.3))
    | inr i ↦
        let w = below_is 10 (λ x. spans k (a / 10) (b / 10) (n * 10 + x)) (subst IsTrue (sym deeper) i) in
        below_has 10 w.0 (λ x. lies a b (n * 10 + x) || spans k (a / 10) (b / 10) (n * 10 + x)) w.1 (or_two (lies a b (n * 10 + w.0)) (spans k (a / 10) (b / 10) (n * 10 + w.0)) w.2)
  ]

ten_more : (k a b n : ℕ) → a ≤ b → some_below 10 (λ x. spans k a b (n * 10 + x)) ≡ spans k (a / 10) (b / 10) n
unfolding spans
ten_more zero a b n r = refl
ten_more (suc k) a b n r =
    let deeper = ten_more k (a / 10) (b / 10) n (omega (arith, r)) in
    both_ways (some_below 10 (λ x. lies a b (n * 10 + x) || spans k (a / 10) (b / 10) (n * 10 + x))) (lies (a / 10) (b / 10) n || spans k (a / 10 / 10) (b / 10 / 10) n) (ten_up k a b n r deeper) (ten_down k a b n r deeper)

-- ---- the test of the grammar, where it lets these numbers pass
module _ (ok : ℕ → Bool) (bound : (n : ℕ) → IsTrue (ok n) → n ≤ limit) (low high : ℕ) (room : low ≤ high) (same : (n : ℕ) → ok n ≡ lies low high n) where
  reach_is : (k n : ℕ) → reach ok bound k n ≡ spans k low high n
  unfolding spans
  reach_is zero n = refl
  reach_is (suc k) n =
      ap (λ b. b || some_below 10 (λ x. reach ok bound k (n * 10 + x))) (same n)
      ∙ ap (λ f. lies low high n || some_below 10 f) (λ i x. reach_is k (n * 10 + x) i)
      ∙ ap (λ b. lies low high n || b) (ten_more k low high n room)

  pub lives_are : (n : ℕ) → lives ok bound n ≡ lies low high n || (nat_lt 0 n && spans 40 low high n)
  lives_are n = ap (λ b. b || (nat_lt 0 n && reach ok bound 40 n)) (same n) ∙ ap (λ b. lies low high n || (nat_lt 0 n && b)) (reach_is 40 n)

-- ---- two tests that let the same numbers pass
module _ (ok : ℕ → Bool) (bound : (n : ℕ) → IsTrue (ok n) → n ≤ limit) (ok' : ℕ → Bool) (bound' : (n : ℕ) → IsTrue (ok' n) → n ≤ limit) (same : (n : ℕ) → ok n ≡ ok' n) where
  same_reach : (k n : ℕ) → reach ok bound k n ≡ reach ok' bound' k n
  same_reach zero n = refl
  same_reach (suc k) n =
      ap (λ b. b || some_below 10 (λ x. reach ok bound k (n * 10 + x))) (same n)
      ∙ ap (λ f. ok' n || some_below 10 f) (λ i x. same_reach k (n * 10 + x) i)

  pub same_lives : (n : ℕ) → lives ok bound n ≡ lives ok' bound' n
  same_lives n = ap (λ b. b || (nat_lt 0 n && reach ok bound 40 n)) (same n) ∙ ap (λ b. ok' n || (nat_lt 0 n && b)) (same_reach 40 n)

-- what machines of numbers read, whose tests are alike
pub same_digits : (good good' live live' : ℕ → Bool) (ends ends' : ℕ → ℕ → Bool) → ((n : ℕ) → good n ≡ good' n) → ((n : ℕ) → live n ≡ live' n) → ((n x : ℕ) → ends n x ≡ ends' n x)
    → (bytes : List ℕ) (s : Digits) → run (digit_step good live ends) bytes s ≡ run (digit_step good' live' ends') bytes s
same_digits good good' live live' ends ends' g l e bytes s = λ i. run (digit_step (λ n. g n i) (λ n. l n i) (λ n x. e n x i)) bytes s

-- ---- the search over the bounds
pub spans_none : (low high n : ℕ) → false ≡ spans 0 low high n
unfolding spans
spans_none low high n = refl

pub spans_here : (k low high n : ℕ) → 0 < k → lies low high n ≡ true → true ≡ spans k low high n
unfolding spans
spans_here zero low high n h e = absurd (omega arith)
spans_here (suc k) low high n h e = sym (or_one (lies low high n) (spans k (low / 10) (high / 10) n) e)

pub spans_turn : (k low high n : ℕ) → 0 < k → lies low high n ≡ false → spans k low high n ≡ spans (k - 1) (low / 10) (high / 10) n
unfolding spans
spans_turn zero low high n h e = absurd (omega arith)
spans_turn (suc k) low high n h e = let back : k ≡ suc k - 1 = omega arith in ap (λ b. b || spans k (low / 10) (high / 10) n) e ∙ ap (λ j. spans j (low / 10) (high / 10) n) back

-- beyond the upper bound there is none
spans_far : (k low high n : ℕ) → high < n → spans k low high n ≡ false
unfolding spans
spans_far zero low high n h = refl
spans_far (suc k) low high n h =
    ap (λ b. b || spans k (low / 10) (high / 10) n) (not_true (lies low high n) (λ i. let l = (is_between low high n i).1 in omega (arith, l, h)))
    ∙ spans_far k (low / 10) (high / 10) n (omega (arith, h))

pub goes_far : (s : Span) (n : ℕ) → s.high < n → goes s n ≡ false
goes_far s n h =
    ap (λ b. b || (nat_lt 0 n && spans 40 s.low s.high n)) (not_true (lies s.low s.high n) (λ i. let l = (is_between s.low s.high n i).1 in omega (arith, l, h)))
    ∙ not_true (nat_lt 0 n && spans 40 s.low s.high n) (λ i. let t = and_two (nat_lt 0 n) (spans 40 s.low s.high n) i in let f = spans_far 40 s.low s.high n h in absurd cc)

pub goes_by_far : (s : Span) (n x m : ℕ) → m ≡ n * 10 + (x - 48) → s.high < m → goes_by s n x ≡ false
goes_by_far s n x m e h = not_true (goes_by s n x) (λ i.
    let t = and_two (nat_lt 0 n && is_digit x) (goes s (n * 10 + (x - 48))) i in
    let f = goes_far s (n * 10 + (x - 48)) (subst (λ z. s.high < z) e h) in absurd cc)
