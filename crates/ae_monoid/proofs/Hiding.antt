-- Rules of which one is left out.
use Rattle.std.specs.Prelude.{◌≡◌, ◌≢◌, ℕ, List, Option, Some, None, IfSome, IfNone, is_some, MatchBool}
use Rattle.std.proofs.Common.{refl, sym, ap, ◌∙◌, subst, arith}
use native.Mathlib.Decide.{ℕ_discrete}
use Rattle.ae_core.specs.declared.problems.AcSymbol.{AcSymbol}
use Rattle.ae_multiset.specs.Rewriting.{IsReduced}
use Rattle.ae_pmap.proofs.PairLemmas.{at_same, at_other}
use Rattle.ae_monoid.specs.declared.rules.Kept.{Kept}
use Rattle.ae_monoid.specs.Rules.{AreRules, Contents, rule_at, IsFit, IsUnfit, IsRuleOf}
use Rattle.ae_monoid.specs.Changes.{IsReducible}
use Rattle.ae_monoid.specs.Inner.Indexes.{hiding}

module _ (kept : ℕ → Option Kept) (but : ℕ) where
  pub hidden : (n : ℕ) → n ≡ but → hiding kept but n ≡ None
  hidden n e = ap (hiding kept but) e ∙ at_same kept but None

  pub shown : (n : ℕ) → n ≢ but → hiding kept but n ≡ kept n
  shown n d = at_other kept but None n d

  -- what is left of the rules
  pub left_over : (n : ℕ) (k : Kept) → hiding kept but n ≡ Some k → (n ≢ but) × (kept n ≡ Some k)
  left_over n k e = by_same (ℕ_discrete n but)
    where
      by_same : Dec (n ≡ but) → (n ≢ but) × (kept n ≡ Some k)
      by_same (yes s) = let c : None ≡ Some k = sym (hidden n s) ∙ e in cc
      by_same (no d) = (d, sym (shown n d) ∙ e)

  -- nothing is left out where no rule has the number
  pub whole : kept but ≡ None → (n : ℕ) → hiding kept but n ≡ kept n
  whole e n = by_same (ℕ_discrete n but)
    where
      by_same : Dec (n ≡ but) → hiding kept but n ≡ kept n
      by_same (yes s) = hidden n s ∙ sym (ap kept s ∙ e)
      by_same (no d) = shown n d

pub none_unfit : (o : Option Kept) (symbol : AcSymbol) (names : List ℕ) → o ≡ None → IsUnfit o symbol names
none_unfit o symbol names e rule f of part = let c : None ≡ Some rule = sym e ∙ f in cc

-- whether another rule reduces the left side of a rule
pub reducible_by : (kept : ℕ → Option Kept) (n : ℕ) (rule : Kept) → kept n ≡ Some rule → (o : Option ℕ) → IfSome o (λ m. IsFit (hiding kept n m) rule.entry.symbol rule.entry.left)
    → IfNone o (IsReduced (IsRuleOf (hiding kept n) rule.entry.symbol) rule.entry.left) → MatchBool (is_some o) (IsReducible kept n) (IsReducible kept n → ⊥)
reducible_by kept n rule there (Some m) fit none =
    let r = left_over kept n m fit.rule fit.there in
    record { rule = rule; there = there; other = m; is_other = r.0; fits = record { rule = fit.rule; there = r.1; of = fit.of; part = fit.part } }
reducible_by kept n rule there None fit reduced = λ r.
    let c : Some r.rule ≡ Some rule = sym r.there ∙ there in
    let e : r.rule ≡ rule = cc in
    let f = subst (λ (k : Kept). IsFit (kept r.other) k.entry.symbol k.entry.left) e r.fits in
    reduced f.rule.entry.left f.rule.entry.right (record { number = r.other; rule = f.rule; there = shown kept n r.other r.is_other ∙ f.there; of = f.of; left = refl; right = refl }) f.part

pub not_reducible : (kept : ℕ → Option Kept) (n : ℕ) → kept n ≡ None → IsReducible kept n → ⊥
not_reducible kept n e r = let c : None ≡ Some r.rule = sym e ∙ r.there in cc

-- no rule has the next number
pub all_shown : (now inside : Contents) → inside ≡ now → AreRules (λ n. rule_at inside n) inside.next → hiding (λ n. rule_at now n) inside.next ≡ (λ n. rule_at now n)
all_shown now inside e r = λ i n. whole (λ m. rule_at now m) inside.next (subst (λ (c : Contents). rule_at c inside.next ≡ None) e (none_at (rule_at inside inside.next) refl)) n i
  where
    none_at : (o : Option Kept) → rule_at inside inside.next ≡ o → rule_at inside inside.next ≡ None
    none_at None f = f
    none_at (Some k) f = let b = r.below inside.next k f in absurd (omega (arith, b))
