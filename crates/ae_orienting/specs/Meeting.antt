-- Equations of which nothing is left to do.
use Rattle.std.specs.Prelude.{ℕ, List, Option}
use Rattle.ae_equation_turns.specs.Turned.{DescendsBy}
use Rattle.ae_equations.specs.declared.queue.Waiting.{Waiting}
use Rattle.ae_monoid.specs.declared.rules.Kept.{Kept}

-- both sides descend to one multiset, by representatives and the rules of the symbol
pub record Meets (reps : List ℕ) (kept : ℕ → Option Kept) (w : Waiting) : Type 0 where
  pub common : List ℕ
  pub left : DescendsBy reps kept w.symbol w.left common
  pub right : DescendsBy reps kept w.symbol w.right common
