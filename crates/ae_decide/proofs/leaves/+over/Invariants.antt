use Rattle.std.proofs.Common.{◌≡◌, drop, length, map}
use Rattle.ae_decide.specs.Leaves.{all_over, is_over}
use Rattle.ae_decide.proofs.leaves.+over.Given as goal

abbrev pub invariant-are_over-loop-i : goal.invariant-are_over-loop-i
invariant-are_over-loop-i l =
    (length l.values ≡ length l.sorts)
    × (all_over (map (is_over l.signature l.system) (drop l.i l.values)) (drop l.i l.sorts) ≡ all_over (map (is_over l.signature l.system) l.values) l.sorts)
