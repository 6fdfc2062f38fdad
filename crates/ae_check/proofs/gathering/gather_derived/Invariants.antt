use Rattle.std.specs.Prelude.{[], ◌∷◌, take}
use Rattle.std.specs.List.{list_any}
use Rattle.ae_calc.specs.Inner.Mentions.{derived_mentions}
use Rattle.ae_check.specs.Inner.ConstantSets.{IsGathered}
use Rattle.ae_check.proofs.gathering.gather_derived.Given as goal

abbrev pub invariant-loop-line : goal.invariant-loop-line
invariant-loop-line l = IsGathered l.fn.constants l.constants (λ n s. list_any (derived_mentions n (s ∷ [])) (take l.line-index l.lines))
