use Rattle.std.specs.Prelude.{[], ◌∷◌, take}
use Rattle.std.specs.List.{list_any}
use Rattle.ae_calc.specs.Inner.Mentions.{formula_mentions}
use Rattle.ae_check.specs.Inner.ConstantSets.{IsGathered}
use Rattle.ae_check.proofs.gathering.gather_clause.Given as goal

abbrev pub invariant-loop-lit : goal.invariant-loop-lit
invariant-loop-lit l = IsGathered l.fn.constants l.constants (λ n s. list_any (λ l. formula_mentions n (s ∷ []) l.formula) (take l.lit-index l.clause))
