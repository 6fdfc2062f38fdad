-- The rules when the passes over them are done.
use Rattle.std.specs.Prelude.{ℕ, ◌≡◌, List, Option, Some}
use Rattle.ae_multiset.specs.Rewriting.{IsReduced}
use Rattle.ae_monoid.specs.declared.rules.Kept.{Kept}
use Rattle.ae_monoid.specs.Rules.{IsRuleOf}
use Rattle.ae_monoid.specs.Changes.{IsReducible}
use Rattle.ae_settled.specs.Swept.{AreOwn}
use Rattle.ae_sweeps.specs.Given.{rep_in}
use Rattle.ae_equation_turns.specs.Turned.{AreRightsOwn}

-- left sides are of representatives, and no other rule reduces one
pub record AreCleared (reps : List ℕ) (kept : ℕ → Option Kept) : Type 0 where
  pub own : (n : ℕ) (rule : Kept) → kept n ≡ Some rule → AreOwn (rep_in reps) rule.entry.left
  pub alone : (n : ℕ) → ¬ IsReducible kept n

-- so are right sides, and no rule reduces one
pub record AreComposed (reps : List ℕ) (kept : ℕ → Option Kept) : Type 0 where
  pub cleared : AreCleared reps kept
  pub rights : AreRightsOwn reps kept
  pub reduced : (n : ℕ) (rule : Kept) → kept n ≡ Some rule → IsReduced (IsRuleOf kept rule.entry.symbol) rule.entry.right
