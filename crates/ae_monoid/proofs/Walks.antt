-- Walks along chains, and the rules that were tested on them.
use Rattle.std.specs.Prelude.{◌≡◌, ◌≢◌, ℕ, ◌+◌, ◌-◌, ◌<◌, ◌≤◌, ◌⊎◌, List, [], ◌∷◌, length, slice_index_or, Option}
use Rattle.std.specs.List.{AllByRecursion}
use Rattle.std.proofs.Common.{◌∙◌, subst, arith, inl, inr}
use Rattle.ae_core.specs.declared.problems.AcSymbol.{AcSymbol}
use Rattle.ae_base.proofs.AllOf.{all_weaker}
use Rattle.ae_monoid.specs.declared.chains.Link.{Link}
use Rattle.ae_monoid.specs.declared.rules.Kept.{Kept}
use Rattle.ae_monoid.specs.Rules.{IsUnfit}
use Rattle.ae_monoid.specs.Reductions.{AreDifferent}
use Rattle.ae_monoid.specs.Inner.Chains.{AreLinked, IsOn}
use Rattle.ae_monoid.specs.Inner.Indexes.{IsOf, AreTestedOn}
use Rattle.ae_monoid.proofs.ChainLaws.{none_on, on_next, first_on_chain, after_on, after_lower, next_before}

-- the rules that were tested before a place of the chain
pub record IsTesting (kept : ℕ → Option Kept) (links : List Link) (head at : ℕ) (symbol : AcSymbol) (old now : ℕ) : Type 0 where
  pub within : at ≤ length links
  pub below : (m : ℕ) → IsOn links at m → IsOn links head m
  pub tests : List ℕ
  pub steps : now ≡ old + length tests
  pub different : AreDifferent tests
  pub each : AllByRecursion (λ n. IsOn links head n × IsOf (kept n) symbol) tests
  pub higher : AllByRecursion (λ n. (m : ℕ) → IsOn links at m → m < n) tests

-- those before it don't fit
pub record IsWalking (kept : ℕ → Option Kept) (links : List Link) (head at : ℕ) (symbol : AcSymbol) (names : List ℕ) (old now : ℕ) : Type 0 where
  pub testing : IsTesting kept links head at symbol old now
  pub all : (n : ℕ) → IsOn links head n → IsUnfit (kept n) symbol names ⊎ IsOn links at n

pub walk_none : (kept : ℕ → Option Kept) (links : List Link) (head : ℕ) (symbol : AcSymbol) (names : List ℕ) (old : ℕ) → head ≤ length links → IsWalking kept links head head symbol names old old
walk_none kept links head symbol names old w = record {
  testing = record { within = w; below = λ m o. o; tests = []; steps = omega arith; different = tt; each = tt; higher = tt };
  all = λ n o. inr o;
}

module _ (kept : ℕ → Option Kept) (links : List Link) (head at : ℕ) (symbol : AcSymbol) (d : Link) (old now more : ℕ) (a : AreLinked links) (p : 0 < at)
    (step : (more ≡ now) ⊎ ((more ≡ now + 1) × IsOf (kept (slice_index_or links (at - 1) d).number) symbol)) where
  abbrev link : Link
  link = slice_index_or links (at - 1) d

  -- the rule of the link was tested, or isn't one of the symbol
  pub testing_more : IsTesting kept links head at symbol old now → IsTesting kept links head link.next symbol old more
  testing_more t = by_step step
    where
      next_within : link.next ≤ length links
      next_within = let b = next_before links at d a p t.within in let w = t.within in omega (arith, b, w)

      next_below : (m : ℕ) → IsOn links link.next m → IsOn links at m
      next_below m o = after_on links at d m p t.within o

      higher : AllByRecursion (λ n. (m : ℕ) → IsOn links link.next m → m < n) t.tests
      higher = all_weaker (λ n. (m : ℕ) → IsOn links at m → m < n) (λ n. (m : ℕ) → IsOn links link.next m → m < n) (λ n h m o. h m (next_below m o)) t.tests t.higher

      other : AllByRecursion (λ m. link.number ≢ m) t.tests
      other =
          all_weaker (λ n. (m : ℕ) → IsOn links at m → m < n) (λ m. link.number ≢ m) (λ n h e. let l = h link.number (first_on_chain links at d p t.within) in omega (arith, l, e)) t.tests t.higher

      by_step : (more ≡ now) ⊎ ((more ≡ now + 1) × IsOf (kept link.number) symbol) → IsTesting kept links head link.next symbol old more
      by_step (inl e) = record {
        within = next_within;
        below = λ m o. t.below m (next_below m o);
        tests = t.tests;
        steps = e ∙ t.steps;
        different = t.different;
        each = t.each;
        higher = higher;
      }
      by_step (inr h) = record {
        within = next_within;
        below = λ m o. t.below m (next_below m o);
        tests = link.number ∷ t.tests;
        steps = (let e = h.0 in let s = t.steps in omega (arith, e, s));
        different = (other, t.different);
        each = ((t.below link.number (first_on_chain links at d p t.within), h.1), t.each);
        higher = ((λ m o. after_lower links at d m a p t.within o), higher);
      }

  pub walk_more : (names : List ℕ) → IsUnfit (kept link.number) symbol names → IsWalking kept links head at symbol names old now → IsWalking kept links head link.next symbol names old more
  walk_more names u w = record { testing = testing_more w.testing; all = λ n o. by_part n (w.all n o) }
    where
      by_next : (n : ℕ) → (link.number ≡ n) ⊎ IsOn links link.next n → IsUnfit (kept n) symbol names ⊎ IsOn links link.next n
      by_next n (inl e) = inl (subst (λ (k : ℕ). IsUnfit (kept k) symbol names) e u)
      by_next n (inr o) = inr o

      by_part : (n : ℕ) → IsUnfit (kept n) symbol names ⊎ IsOn links at n → IsUnfit (kept n) symbol names ⊎ IsOn links link.next n
      by_part n (inl h) = inl h
      by_part n (inr o) = by_next n (on_next links at n d o)

pub tested : (kept : ℕ → Option Kept) (links : List Link) (head at : ℕ) (symbol : AcSymbol) (old now : ℕ) → IsTesting kept links head at symbol old now → AreTestedOn kept links head symbol old now
tested kept links head at symbol old now t = record { tests = t.tests; steps = t.steps; different = t.different; each = t.each }

pub all_unfit : (kept : ℕ → Option Kept) (links : List Link) (head at : ℕ) (symbol : AcSymbol) (names : List ℕ) (old now : ℕ) → IsWalking kept links head at symbol names old now → at ≡ 0
    → (n : ℕ) → IsOn links head n → IsUnfit (kept n) symbol names
all_unfit kept links head at symbol names old now w z n o = by_part (w.all n o)
  where
    by_part : IsUnfit (kept n) symbol names ⊎ IsOn links at n → IsUnfit (kept n) symbol names
    by_part (inl h) = h
    by_part (inr k) = absurd (none_on links n (subst (λ (x : ℕ). IsOn links x n) z k))
