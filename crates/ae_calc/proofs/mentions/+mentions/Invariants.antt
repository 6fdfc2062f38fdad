use Rattle.std.proofs.Common.{◌≡◌, false, take}
use Rattle.std.specs.List.{list_any}
use Rattle.ae_calc.specs.Inner.Mentions as spec
use Rattle.ae_calc.proofs.mentions.+mentions.Given as goal

abbrev pub invariant-any_mentions-loop-term : goal.invariant-any_mentions-loop-term
invariant-any_mentions-loop-term l = list_any (spec.mentions l.first l.sorts) (take l.term-index l.terms) ≡ false
