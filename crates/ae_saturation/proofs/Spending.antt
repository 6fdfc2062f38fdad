-- What may be noted still, after the passes over rules and after equations that were given up.
use Rattle.std.specs.Prelude.{ℕ, [], ◌≡◌}
use Rattle.std.proofs.Common.{sym, ap, ◌∙◌, subst}
use Rattle.ae_journal.specs.Journals.{counted_in}
use Rattle.ae_journal.specs.Noted.{Noted}
use Rattle.ae_monoid.specs.Rules.{Contents as Rules, rule_at}
use Rattle.ae_store.specs.Stores.{Stored}
use Rattle.ae_equations.specs.Queued.{waiting}
use Rattle.ae_equations.specs.declared.queue.Queue.{Queue}
use Rattle.ae_value_table.specs.Table.{Contents}
use Rattle.ae_state.specs.declared.holding.Holding.{Holding}
use Rattle.ae_turns.specs.Budget.{HasLeft, MayNote, Spends}
use Rattle.ae_turns.specs.Ending.{HaveSameLefts}
use Rattle.ae_turns.proofs.Budgets.{left_still, rules_still, spends_nothing}

module _ (s : Stored) (o p : Holding) where
  -- the right sides were composed
  pub composed_may_note : p ≡ record o { equations = p.equations; justs = p.justs } → HaveSameLefts (λ n. rule_at o.equations.rules n) (λ n. rule_at p.equations.rules n)
      → p.equations.queue ≡ o.equations.queue → (n : ℕ) → MayNote o s n → MayNote p s n
  composed_may_note others lefts queue n h =
      let valued : p.values ≡ o.values = ap (λ (q : Holding). q.values) others in
      subst (λ (c : Contents). HasLeft s c p.equations n) (sym valued)
      (rules_still s o.values o.equations p.equations (λ k rule at. let q = lefts.alone k rule at in (q.rule, q.there)) (λ none waits. ap (λ (q : Queue). waiting q) queue ∙ waits) n h)

  -- no equation waits any more, and nothing was noted
  pub waiting_spends : (j k : Noted) → p ≡ record o { equations = p.equations; justs = p.justs } → p.equations.rules ≡ o.equations.rules → waiting p.equations.queue ≡ [] → k ≡ j → Spends s o j.lines p k.lines
  waiting_spends j k stays rules none lines =
      spends_nothing s o p j.lines k.lines (ap (λ (z : Noted). counted_in z.lines) lines)
      (λ n h.
      let valued : p.values ≡ o.values = ap (λ (q : Holding). q.values) stays in
      subst (λ (c : Contents). HasLeft s c p.equations n) (sym valued)
      (left_still s o.values o.values o.equations p.equations (λ k u. u) (λ no_rules i. ap (λ (r : Rules). rule_at r i) rules ∙ no_rules i) (λ no_rules waits. none) n h))
