use Rattle.std.proofs.Common.{◌≡◌, false, take}
use Rattle.ae_calc.specs.Inner.Mentions as spec
use Rattle.ae_calc.proofs.mentions.clause_mentions.Given as goal

abbrev pub invariant-loop-lit : goal.invariant-loop-lit
invariant-loop-lit l = spec.clause_mentions l.first l.sorts (take l.lit-index l.clause) ≡ false
