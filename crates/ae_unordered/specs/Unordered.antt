-- Numbers whose order a trail leaves open.
use Rattle.std.specs.Prelude.{List}
use Rattle.ae_core.specs.declared.formulas.Formula.{Lt}
use Rattle.ae_explain.specs.declared.trail.Assigned.{Assigned}
use Rattle.ae_propagation.specs.Settled.{Holds}
use Rattle.ae_rules.specs.Clauses.{is_false}
use Rattle.ae_unordered.specs.declared.pairs.Pair.{Pair}

-- it is denied that the second is below the first
abbrev pub IsOpenPair : List Assigned → Pair → Type 0
IsOpenPair t pair = Holds t (is_false (Lt pair.right pair.left))
