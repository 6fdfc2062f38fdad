use Rattle.std.proofs.Common.{◌≡◌, true, take}
use Rattle.std.specs.List.{list_all}
use Rattle.ae_counts.specs.Inner.Counted as spec
use Rattle.ae_counts.proofs.formulas.literals_count.Given as goal

abbrev pub invariant-loop-literal : goal.invariant-loop-literal
invariant-loop-literal l = list_all spec.literal_counts (take l.literal-index l.literals) ≡ true
