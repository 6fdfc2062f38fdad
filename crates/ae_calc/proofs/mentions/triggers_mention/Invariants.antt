use Rattle.std.proofs.Common.{◌≡◌, false, take}
use Rattle.std.specs.List.{list_any}
use Rattle.ae_calc.specs.Inner.Mentions as spec
use Rattle.ae_calc.proofs.mentions.triggers_mention.Given as goal

abbrev pub invariant-loop-trigger : goal.invariant-loop-trigger
invariant-loop-trigger l = list_any (list_any (spec.mentions l.first l.sorts)) (take l.trigger-index l.triggers) ≡ false
