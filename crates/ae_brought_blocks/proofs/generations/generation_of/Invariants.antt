use Rattle.std.proofs.Common.{ℕ, ◌<◌}
use Rattle.ae_ages.specs.Ages.{HasAge}
use Rattle.ae_brought_blocks.proofs.generations.generation_of.Given as goal

-- no entry gives the formula one of the earlier ones
abbrev pub invariant-loop-generation : goal.invariant-loop-generation
invariant-loop-generation l = (k : ℕ) → k < l.generation → ¬ HasAge l.ages k l.formula
