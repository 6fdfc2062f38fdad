use Rattle.std.specs.Prelude.{ℕ, ◌<◌, ◌≡◌, Some}
use Rattle.ae_settled.specs.Swept.{AreOwn}
use Rattle.ae_monoid.specs.declared.rules.Kept.{Kept}
use Rattle.ae_monoid.specs.Rules.{rule_at}
use Rattle.ae_sweeps.specs.Given.{rep_in}
use Rattle.ae_right_sides.specs.Inner.OtherRights.{HasOtherRights}
use Rattle.ae_right_sides.proofs.rights.rename_all.Given as goal

abbrev pub invariant-loop-number : goal.invariant-loop-number
invariant-loop-number l = record {
  rights : HasOtherRights l.store l.initial.held l.held;
  own : (n : ℕ) (rule : Kept) → n < l.number → rule_at l.held.equations.rules n ≡ Some rule → AreOwn (rep_in l.reps) rule.entry.right;
}
