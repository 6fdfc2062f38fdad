-- Sides after a change.
use Rattle.std.specs.Prelude.{ℕ, ◌≡◌, ◌≢◌, ◌≤◌, List, map, Option, Some}
use Rattle.ae_core.specs.declared.problems.AcSymbol.{AcSymbol}
use Rattle.ae_multiset.specs.Rewriting.{IsReduced}
use Rattle.ae_settled.specs.Swept.{AreOwn}
use Rattle.ae_just.specs.declared.steps.Step.{Step}
use Rattle.ae_monoid.specs.declared.rules.Kept.{Kept}
use Rattle.ae_monoid.specs.Rules.{IsRuleOf}
use Rattle.ae_monoid.specs.Changes.{with_right}
use Rattle.ae_descents.specs.Descents.{Descends}
use Rattle.ae_rule_steps.specs.Said.{RestsOnRules}
use Rattle.ae_sweeps.specs.Given.{rep_in}
use Rattle.ae_equation_turns.specs.Said.{RestsOnHeld}

-- by representatives, and by the rules of the symbol
abbrev pub DescendsBy : List ℕ → (ℕ → Option Kept) → AcSymbol → List ℕ → List ℕ → Type 0
DescendsBy reps kept symbol a b = Descends (λ n r. rep_in reps n ≡ r) (IsRuleOf kept symbol) a b

-- the right sides of all rules are of names that are their own representatives
pub record AreRightsOwn (reps : List ℕ) (kept : ℕ → Option Kept) : Type 0 where
  pub each : (n : ℕ) (rule : Kept) → kept n ≡ Some rule → AreOwn (rep_in reps) rule.entry.right

-- representatives are no larger than their names, and their own
pub record AreLeast (reps : List ℕ) : Type 0 where
  pub below : (n : ℕ) → rep_in reps n ≤ n
  pub own : (n : ℕ) → rep_in reps (rep_in reps n) ≡ rep_in reps n

-- the rule of a number has another right side and justification, and all others are as they were
pub record IsComposed (old new : ℕ → Option Kept) (number : ℕ) (rule : Kept) (right : List ℕ) (just : ℕ) : Type 0 where
  pub there : old number ≡ Some rule
  pub is : new number ≡ Some (with_right rule right just)
  pub others : (n : ℕ) → n ≢ number → new n ≡ old n

-- the right side became its representatives
pub record IsRightRenamed (reps equal : List ℕ) (old new : ℕ → Option Kept) (steps more : List Step) (number : ℕ) : Type 0 where
  pub rule : Kept
  pub just : ℕ
  pub composed : IsComposed old new number rule (map (rep_in reps) rule.entry.right) just
  pub rests : RestsOnHeld old rule.entry.symbol equal steps more just

-- the right side became a reduced one
pub record IsRightReduced (old new : ℕ → Option Kept) (steps more : List Step) (number : ℕ) : Type 0 where
  pub rule : Kept
  pub right : List ℕ
  pub just : ℕ
  pub composed : IsComposed old new number rule right just
  pub reduced : IsReduced (IsRuleOf old rule.entry.symbol) right
  pub descends : (reps : List ℕ) → DescendsBy reps old rule.entry.symbol rule.entry.right right
  pub own : (reps : List ℕ) → AreRightsOwn reps old → AreOwn (rep_in reps) right
  pub rests : RestsOnRules old rule.entry.symbol steps more just
