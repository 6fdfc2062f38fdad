-- What the oldest equation that waits is reduced to.
use Rattle.std.specs.Prelude.{ℕ, ◌<◌, ◌≡◌, ◌⊎◌, List, length, Option, Some}
use Rattle.std.specs.List.Sorted.{IsNonDecreasing}
use Rattle.ae_conflicts.specs.Saying.{RestsOnAssumed}
use Rattle.ae_core.specs.declared.problems.AcSymbol.{AcSymbol}
use Rattle.ae_equation_turns.specs.Said.{IsWaitingSaid}
use Rattle.ae_equation_turns.specs.Turned.{DescendsBy}
use Rattle.ae_equations.specs.Queued.{waiting}
use Rattle.ae_equations.specs.declared.queue.Waiting.{Waiting}
use Rattle.ae_monoid.specs.Rules.{rule_at, IsRuleOf}
use Rattle.ae_monoid.specs.declared.rules.Kept.{Kept}
use Rattle.ae_multiset.specs.Rewriting.{IsReduced}
use Rattle.ae_pmap.specs.Forest.{present}
use Rattle.ae_pmap.specs.Walk.{first_of}
use Rattle.ae_settled.specs.Swept.{AreOwn}
use Rattle.ae_store.specs.Stores.{Stored}
use Rattle.ae_sweeps.specs.Given.{rep_in}
use Rattle.ae_theory.specs.Names.{terms_in}
use Rattle.ae_state.specs.declared.holding.Holding.{Holding}
use Rattle.ae_state.specs.Names.{all_terms}

-- a side over representatives that no rule of the symbol reduces, in rising order
pub record IsSide (reps : List ℕ) (kept : ℕ → Option Kept) (symbol : AcSymbol) (names : List ℕ) : Type 0 where
  pub own : AreOwn (rep_in reps) names
  pub reduced : IsReduced (IsRuleOf kept symbol) names
  pub rises : IsNonDecreasing names
  pub some : 0 < length names

-- the two sides of an equation descend to these
abbrev pub Descend : List ℕ → (ℕ → Option Kept) → Waiting → List ℕ → List ℕ → Type 0
Descend reps kept w left right = DescendsBy reps kept w.symbol w.left left × DescendsBy reps kept w.symbol w.right right

-- the equation is reduced to another, perhaps with its sides changed over, which a step states that rests on assumed literals alone
pub record IsReducedTo (s : Stored) (o : Holding) (reps : List ℕ) (w e : Waiting) : Type 0 where
  pub symbol : e.symbol ≡ w.symbol
  pub left : IsSide reps (λ n. rule_at o.equations.rules n) w.symbol e.left
  pub right : IsSide reps (λ n. rule_at o.equations.rules n) w.symbol e.right
  pub descend : Descend reps (λ n. rule_at o.equations.rules n) w e.left e.right ⊎ Descend reps (λ n. rule_at o.equations.rules n) w e.right e.left
  pub said : IsWaitingSaid s.signature (terms_in s) o.justs e
  pub rests : RestsOnAssumed (all_terms o) o.justs (present o.assumed) e.step

-- this is done to the oldest equation
pub record IsFirstReduced (s : Stored) (o : Holding) (reps : List ℕ) (e : Waiting) : Type 0 where
  pub first : Waiting
  pub at : first_of (waiting o.equations.queue) ≡ Some first
  pub to : IsReducedTo s o reps first e
