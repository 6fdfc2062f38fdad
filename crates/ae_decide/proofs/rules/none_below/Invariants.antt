use Rattle.std.proofs.Common.{◌≡◌, true}
use Rattle.std.specs.Prelude.{Some}
use Rattle.ae_decide.specs.Rules.{none_below}
use Rattle.ae_decide.proofs.rules.none_below.Given as goal

abbrev pub invariant-loop-other : goal.invariant-loop-other
invariant-loop-other l = none_below l.signature l.system l.sort (Some l.value) l.other ≡ true
