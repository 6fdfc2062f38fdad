use Rattle.std.proofs.Common.{◌≡◌, false, take}
use Rattle.std.specs.List.{list_any}
use Rattle.ae_calc.specs.Inner.Mentions as spec
use Rattle.ae_calc.proofs.fresh.derived_mentions.Given as goal

abbrev pub invariant-loop-line : goal.invariant-loop-line
invariant-loop-line l = list_any (spec.derived_mentions l.first l.sorts) (take l.line-index l.lines) ≡ false
