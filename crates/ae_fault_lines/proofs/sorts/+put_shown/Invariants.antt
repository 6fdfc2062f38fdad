use Rattle.std.proofs.Common.{◌≡◌, ◌++◌, drop, map}
use Rattle.ae_elab.specs.Scope.{name_in}
use Rattle.ae_fault_lines.specs.Inner.Pieces.{spaced_sorts}
use Rattle.ae_fault_lines.proofs.sorts.+put_shown.Given as goal

abbrev pub invariant-put_spaced-loop-sort : goal.invariant-put_spaced-loop-sort
invariant-put_spaced-loop-sort l =
    l.out.items ++ spaced_sorts (map (name_in l.text) l.types) (drop l.sort-index l.sorts) ≡ l.fn.out.items ++ spaced_sorts (map (name_in l.text) l.types) l.sorts
