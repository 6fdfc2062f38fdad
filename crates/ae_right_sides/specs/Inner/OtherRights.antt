-- Rules that have other right sides, said by steps that came.
use Rattle.std.specs.Prelude.{List, ◌≡◌}
use Rattle.ae_journal.specs.declared.lines.Line.{Line}
use Rattle.ae_monoid.specs.Rules.{rule_at}
use Rattle.ae_store.specs.Growing.{IsFront}
use Rattle.ae_store.specs.Stores.{Stored}
use Rattle.ae_equations.specs.Versions.{Lasts}
use Rattle.ae_state.specs.declared.holding.Holding.{Holding}
use Rattle.ae_state.specs.Fitting.{FitsStore}
use Rattle.ae_state.specs.Stepping.{IsInStep}
use Rattle.ae_turns.specs.Ending.{HaveSameLefts}

-- p is what o is, but for right sides of rules and for steps behind those of o; it fits the store, and lines that are in step with o are so with p
pub record HasOtherRights (s : Stored) (o p : Holding) : Type 0 where
  pub others : p ≡ record o { equations = p.equations; justs = p.justs }
  pub pairs : p.equations.pairs ≡ o.equations.pairs
  pub queue : p.equations.queue ≡ o.equations.queue
  pub next : p.equations.rules.next ≡ o.equations.rules.next
  pub lefts : HaveSameLefts (λ n. rule_at o.equations.rules n) (λ n. rule_at p.equations.rules n)
  pub lasts : Lasts o.equations p.equations
  pub front : IsFront o.justs p.justs
  pub fits : FitsStore p s
  pub step : (js : List Line) → IsInStep o js → IsInStep p js
