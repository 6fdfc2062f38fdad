use Rattle.std.proofs.Common.{◌≡◌, ◌++◌, take}
use Rattle.ae_expressions.proofs.merging.joined.Given as goal

abbrev pub invariant-loop-variable : goal.invariant-loop-variable
invariant-loop-variable l = l.all ≡ take l.variable-index l.first

abbrev pub invariant-loop-other : goal.invariant-loop-other
invariant-loop-other l = l.all ≡ l.first ++ take l.other-index l.second
