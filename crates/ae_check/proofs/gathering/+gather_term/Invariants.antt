use Rattle.std.specs.Prelude.{[], ◌∷◌, take}
use Rattle.std.specs.List.{list_any}
use Rattle.ae_calc.specs.Inner.Mentions.{mentions}
use Rattle.ae_check.specs.Inner.ConstantSets.{IsGathered}
use Rattle.ae_check.proofs.gathering.+gather_term.Given as goal

abbrev pub invariant-gather_terms-loop-term : goal.invariant-gather_terms-loop-term
invariant-gather_terms-loop-term l = IsGathered l.fn.constants l.constants (λ n s. list_any (mentions n (s ∷ [])) (take l.term-index l.terms))
