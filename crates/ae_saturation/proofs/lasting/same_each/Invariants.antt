use Rattle.std.specs.Prelude.{◌<◌, ℕ, get_or, IsTrue}
use Rattle.ae_value_table.specs.Alike.{alike}
use Rattle.ae_saturation.proofs.lasting.same_each.Given as goal

abbrev pub invariant-loop-i : goal.invariant-loop-i
invariant-loop-i l = (k : ℕ) → k < l.i → IsTrue (alike l.values (get_or l.left k 0) (get_or l.right k 0))
