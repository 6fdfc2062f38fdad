-- The steps of a reduction, with their justifications.
use Rattle.std.specs.Prelude.{◌≡◌, ℕ, ◌<◌, ◌≤◌, List, [], ◌∷◌, ◌++◌, length, Option, Some, None, IfSome, IfNone}
use Rattle.std.specs.List.Sorted.{IsNonDecreasing}
use Rattle.std.proofs.Common.{sym, subst, arith}
use Rattle.ae_core.specs.declared.problems.AcSymbol.{AcSymbol}
use Rattle.ae_multiset.specs.Multisets.{count, rising}
use Rattle.ae_multiset.specs.Ranks.{rank}
use Rattle.ae_multiset.specs.Rewriting.{ReducesTo}
use Rattle.ae_multiset.proofs.Rising.{count-rising}
use Rattle.ae_multiset.proofs.Reducing.{step_size}
use Rattle.ae_monoid.specs.declared.rules.Kept.{Kept}
use Rattle.ae_monoid.specs.Rules.{AreRules, IsRuleOf}
use Rattle.ae_monoid.specs.Reductions.{ReducesBy, none, more, IsStepBy}
use Rattle.ae_monoid.specs.Inner.Bounds.{bound_of}
use Rattle.ae_monoid.proofs.Reductions.{start, start_within, start_size, then_step, plain_step, step_within, step_rank, decreases}

pub record IsReducing (kept : ℕ → Option Kept) (next : ℕ) (symbol : AcSymbol) (names justs now : List ℕ) : Type 0 where
  pub by : ReducesBy kept symbol names justs now
  pub follows : ReducesTo (IsRuleOf kept symbol) names now
  pub rises : IsNonDecreasing now
  pub size : length now ≤ length names
  pub within : (x : ℕ) → bound_of kept next names ≤ x → count x now ≡ 0

pub reducing_none : (kept : ℕ → Option Kept) (next : ℕ) (symbol : AcSymbol) (names justs now : List ℕ) → justs ≡ [] → now ≡ rising names → IsNonDecreasing now → IsReducing kept next symbol names justs now
reducing_none kept next symbol names justs now j e rises = record {
  by =
      subst (λ (js : List ℕ). ReducesBy kept symbol names js now) (sym j)
      (subst (λ (ns : List ℕ). ReducesBy kept symbol names [] ns) (sym e) (none (record { each = λ x. sym (count-rising x names) })));
  follows = subst (λ (ns : List ℕ). ReducesTo (IsRuleOf kept symbol) names ns) (sym e) (start (IsRuleOf kept symbol) names);
  rises = rises;
  size = subst (λ (ns : List ℕ). length ns ≤ length names) (sym e) (start_size names);
  within = subst (λ (ns : List ℕ). (x : ℕ) → bound_of kept next names ≤ x → count x ns ≡ 0) (sym e) (start_within names (bound_of kept next names) (omega arith));
}

module _ (kept : ℕ → Option Kept) (next : ℕ) (symbol : AcSymbol) (rules : AreRules kept next) (names justs now after : List ℕ) (just : ℕ) (i : IsReducing kept next symbol names justs now) (s : IsStepBy kept symbol just now after) where
  pub reducing_more : (longer : List ℕ) → longer ≡ justs ++ just ∷ [] → IsNonDecreasing after → IsReducing kept next symbol names longer after
  reducing_more longer e rises =
      let step = plain_step kept next symbol rules just now after s in
      let smaller = step_size (IsRuleOf kept symbol) (decreases kept next symbol rules) step in
      let size = i.size in
      record {
        by = subst (λ (js : List ℕ). ReducesBy kept symbol names js after) (sym e) (more just i.by s);
        follows = then_step kept next symbol rules names now after i.follows step;
        rises = rises;
        size = omega (arith, smaller, size);
        within = step_within kept next symbol rules (bound_of kept next names) now after (omega arith) step i.within;
      }

  pub reducing_falls : rank (length names) (bound_of kept next names) after < rank (length names) (bound_of kept next names) now
  reducing_falls = step_rank kept next symbol rules (length names) (bound_of kept next names) now after i.size (omega arith) i.within (plain_step kept next symbol rules just now after s)

pub some_of : {A : Type 0} (o : Option A) (x : A) (P : A → Type 0) → o ≡ Some x → IfSome o P → P x
some_of {A} o x P e h = let t : IfSome (Some x) P = subst (λ (y : Option A). IfSome y P) e h in t

pub none_of : {A : Type 0} (o : Option A) (P : Type 0) → o ≡ None → IfNone o P → P
none_of {A} o P e h = let t : IfNone {T = A} None P = subst (λ (y : Option A). IfNone y P) e h in t
