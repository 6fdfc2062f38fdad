-- Reduction by numbered rules.
use Rattle.std.specs.Prelude.{◌≡◌, ℕ, zero, suc, ◌+◌, ◌<◌, ◌≤◌, List, ◌++◌, length, Option, Some}
use Rattle.std.specs.List.Sorted.{IsNonDecreasing}
use Rattle.std.proofs.Common.{arith, refl, sym, ap, ◌∙◌, subst}
use native.Mathlib.Decide.{ℕ_discrete}
use Rattle.ae_core.specs.declared.problems.AcSymbol.{AcSymbol}
use Rattle.ae_multiset.specs.Multisets.{count, IsSame, IsPart, IsLess, minus, rising}
use Rattle.ae_multiset.specs.Normal.{top}
use Rattle.ae_multiset.specs.Ranks.{rank}
use Rattle.ae_multiset.specs.Rewriting.{Step, ReducesTo, IsReduced, IsLinked, OverlapsJoin, Decreases, done, more}
use Rattle.ae_multiset.proofs.Counts.{count-append, count-minus, count-above, length_same, same}
use Rattle.ae_multiset.proofs.Rising.{count-rising, one_spelling}
use Rattle.ae_multiset.proofs.Ranks.{rank_falls}
use Rattle.ae_multiset.proofs.Confluence.{step-less, follows_then, only_answer}
use Rattle.ae_monoid.specs.declared.rules.Kept.{Kept}
use Rattle.ae_monoid.specs.Rules.{AreRules, IsRuleOf}
use Rattle.ae_monoid.specs.Reductions.{IsTurned, IsStepBy}
use Rattle.ae_monoid.specs.Inner.Bounds.{top_of, tops_below}

-- what is left where a part is taken out, with the right side put in
pub turned_by : (rule : Kept) (names rest after : List ℕ) → IsPart rule.entry.left names → IsSame rest (minus names rule.entry.left) → IsSame after (rule.entry.right ++ rest) → IsTurned rule names after
turned_by rule names rest after p s t = record { rest = rest; before = record { each = λ x. same_count x }; after = t }
  where
    same_count : (x : ℕ) → count x names ≡ count x (rule.entry.left ++ rest)
    same_count x =
        let a = count-append x rule.entry.left rest in
        let b = s.each x in
        let c = count-minus x names rule.entry.left in
        let d = p.each x in
        omega (arith, a, b, c, d)

module _ (kept : ℕ → Option Kept) (next : ℕ) (symbol : AcSymbol) (rules : AreRules kept next) where
  abbrev R : List ℕ → List ℕ → Type 0
  R l r = IsRuleOf kept symbol l r

  pub decreases : Decreases (IsRuleOf kept symbol)
  decreases l r i =
      subst (λ (x : List ℕ). IsLess r x) i.left (subst (λ (y : List ℕ). IsLess y i.rule.entry.left) i.right (rules.well i.number i.rule i.there).falls)

  tops_above : (m n : ℕ) (k : Kept) → n < m → kept n ≡ Some k → top k.entry.right ≤ tops_below kept m
  tops_above zero n k h e = absurd (omega arith)
  tops_above (suc m) n k h e = by_same (λ l. tops_above m n k l e) (ℕ_discrete n m)
    where
      by_same : (n < m → top k.entry.right ≤ tops_below kept m) → Dec (n ≡ m) → top k.entry.right ≤ top_of (kept m) + tops_below kept m
      by_same ih (yes s) = let f : top_of (kept m) ≡ top k.entry.right = ap top_of (ap kept (sym s) ∙ e) in omega arith
      by_same ih (no d) = let l : n < m = omega (arith, d) in let t = ih l in omega arith

  -- a step brings no name beyond the bound
  pub step_within : (bound : ℕ) (a b : List ℕ) → tops_below kept next ≤ bound → Step (IsRuleOf kept symbol) a b → ((x : ℕ) → bound ≤ x → count x a ≡ 0) → (x : ℕ) → bound ≤ x → count x b ≡ 0
  step_within bound a b h s within x l =
      let i = s.rule in
      let t : top i.rule.entry.right ≤ tops_below kept next = tops_above next i.number i.rule (rules.below i.number i.rule i.there) i.there in
      let right : count x s.right ≡ 0 = ap (count x) (sym i.right) ∙ count-above i.rule.entry.right x (omega (arith, t)) in
      let whole = within x l in
      let before = (s.before).each x in
      let after = (s.after).each x in
      let parts = count-append x s.left s.rest in
      let others = count-append x s.right s.rest in
      omega arith

  pub step_rank : (size bound : ℕ) (a b : List ℕ) → length a ≤ size → tops_below kept next ≤ bound → ((x : ℕ) → bound ≤ x → count x a ≡ 0) → Step (IsRuleOf kept symbol) a b → rank size bound b < rank size bound a
  step_rank size bound a b h t within s = rank_falls size bound b a h (step_within bound a b t s within) within (step-less (IsRuleOf kept symbol) decreases s)

  pub only : (names after : List ℕ) → ReducesTo (IsRuleOf kept symbol) names after → IsReduced (IsRuleOf kept symbol) after → IsNonDecreasing after → OverlapsJoin (IsRuleOf kept symbol)
      → (other : List ℕ) → IsNonDecreasing other → IsReduced (IsRuleOf kept symbol) other → IsLinked (IsRuleOf kept symbol) names other → other ≡ after
  only names after f r n o other m s l = one_spelling other after m n (only_answer (IsRuleOf kept symbol) o decreases names other after f r s l)

  -- a step with a justification is a step
  pub plain_step : (just : ℕ) (a b : List ℕ) → IsStepBy kept symbol just a b → Step (IsRuleOf kept symbol) a b
  plain_step just a b s = record {
    left = s.rule.entry.left;
    right = s.rule.entry.right;
    rule = record { number = s.number; rule = s.rule; there = s.there; of = s.of; left = refl; right = refl };
    rest = s.turned.rest;
    before = s.turned.before;
    after = s.turned.after;
  }

  pub then_step : (a b c : List ℕ) → ReducesTo (IsRuleOf kept symbol) a b → Step (IsRuleOf kept symbol) b c → ReducesTo (IsRuleOf kept symbol) a c
  then_step a b c f s = follows_then (IsRuleOf kept symbol) f (more s (done (same c)))

-- ---- the start
pub start : (R : List ℕ → List ℕ → Type 0) (names : List ℕ) → ReducesTo R names (rising names)
start R names = done (record { each = λ x. sym (count-rising x names) })

pub start_within : (names : List ℕ) (bound : ℕ) → top names ≤ bound → (x : ℕ) → bound ≤ x → count x (rising names) ≡ 0
start_within names bound h x l = count-rising x names ∙ count-above names x (omega arith)

pub start_size : (names : List ℕ) → length (rising names) ≤ length names
start_size names = let e = length_same (rising names) names (record { each = λ x. count-rising x names }) in omega arith
