use Rattle.std.proofs.Common.{◌≡◌, ◌<◌, ℕ, length, slice_get, Some, IsTrue}
use Rattle.ae_value_table.specs.Alike.{alike}
use Rattle.ae_least_names.proofs.least.found.Given as goal

abbrev pub invariant-loop-other : goal.invariant-loop-other
invariant-loop-other l = (k m : ℕ) → k < l.other-index → slice_get l.names k ≡ Some m → IsTrue (alike l.values m l.name) → m < length l.reps → ⊥
