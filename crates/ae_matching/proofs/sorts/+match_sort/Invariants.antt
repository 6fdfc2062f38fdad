use Rattle.std.proofs.Common.{◌≡◌, drop, length}
use Rattle.ae_matching.specs.SortMatching as spec
use Rattle.ae_matching.proofs.sorts.+match_sort.Given as goal

abbrev pub invariant-match_sorts-loop-i : goal.invariant-match_sorts-loop-i
invariant-match_sorts-loop-i l = (length l.patterns ≡ length l.sorts) × (spec.match_sorts l.patterns l.sorts l.fn.bindings ≡ spec.match_sorts (drop l.i l.patterns) (drop l.i l.sorts) l.found)
