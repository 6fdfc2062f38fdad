use Rattle.std.specs.Prelude.{◌≢◌, take}
use Rattle.std.specs.List.{AllByRecursion}
use Rattle.ae_rules.specs.Clauses.{opposite}
use Rattle.ae_sure_literals.proofs.closing.has_opposite.Given as goal

abbrev pub invariant-loop-other : goal.invariant-loop-other
invariant-loop-other l = AllByRecursion (λ m. m ≢ opposite l.lit) (take l.other-index l.clause)
