use Rattle.std.specs.Prelude.{ℕ, ◌<◌, List, ◌≡◌, Some}
use Rattle.ae_multiset.specs.Rewriting.{IsReduced}
use Rattle.ae_monoid.specs.declared.rules.Kept.{Kept}
use Rattle.ae_monoid.specs.Rules.{rule_at, IsRuleOf}
use Rattle.ae_equation_turns.specs.Turned.{AreRightsOwn}
use Rattle.ae_right_sides.specs.Inner.OtherRights.{HasOtherRights}
use Rattle.ae_right_sides.proofs.rights.reduce_all.Given as goal

abbrev pub invariant-loop-number : goal.invariant-loop-number
invariant-loop-number l = record {
  rights : HasOtherRights l.store l.initial.held l.held;
  own : (reps : List ℕ) → AreRightsOwn reps (λ n. rule_at l.initial.held.equations.rules n) → AreRightsOwn reps (λ n. rule_at l.held.equations.rules n);
  reduced : (n : ℕ) (rule : Kept) → n < l.number → rule_at l.held.equations.rules n ≡ Some rule → IsReduced (IsRuleOf (λ m. rule_at l.held.equations.rules m) rule.entry.symbol) rule.entry.right;
}
