use Rattle.std.specs.Prelude.{ℕ, ◌<◌, IsTrue}
use Rattle.ae_value_table.specs.Alike.{alike}
use Rattle.ae_value_table.proofs.representatives.least.Given as goal

abbrev pub invariant-loop-other : goal.invariant-loop-other
invariant-loop-other l = (m : ℕ) → m < l.other → IsTrue (alike l.values m l.name) → ⊥
