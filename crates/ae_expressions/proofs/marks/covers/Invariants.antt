use Rattle.std.proofs.Common.{◌≡◌, true, nat_eq, take}
use Rattle.std.specs.List.{list_any, list_all}
use Rattle.ae_elab.specs.Nodes.{entries_of, trees_at}
use Rattle.ae_elab.specs.Trees.{variables_among}
use Rattle.ae_expressions.proofs.marks.covers.Given as goal

abbrev pub invariant-loop-variable : goal.invariant-loop-variable
invariant-loop-variable l = list_all (λ x. list_any (nat_eq x) (variables_among (trees_at (entries_of l.nodes) l.places))) (take l.variable-index l.variables) ≡ true
