use Rattle.std.specs.Prelude.{[], ◌∷◌, take}
use Rattle.std.specs.List.{list_any}
use Rattle.ae_calc.specs.Inner.Mentions.{mentions}
use Rattle.ae_check.specs.Inner.ConstantSets.{IsGathered}
use Rattle.ae_check.proofs.gathering.gather_triggers.Given as goal

abbrev pub invariant-loop-trigger : goal.invariant-loop-trigger
invariant-loop-trigger l = IsGathered l.fn.constants l.constants (λ n s. list_any (list_any (mentions n (s ∷ []))) (take l.trigger-index l.triggers))
