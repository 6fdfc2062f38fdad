use Rattle.std.proofs.Common.{◌≡◌, drop, ◌++◌}
use Rattle.ae_types.specs.Inner.Joins.{pairs_of}
use Rattle.ae_types.proofs.joins.push_pairs.Given as goal

abbrev pub invariant-loop-i : goal.invariant-loop-i
invariant-loop-i l = l.todo ++ pairs_of (drop l.i l.left) (drop l.i l.right) ≡ l.fn.todo ++ pairs_of l.left l.right
