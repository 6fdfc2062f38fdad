use Rattle.std.proofs.Common.{◌≡◌, drop}
use Rattle.ae_decide.specs.Overlaps.{step_by}
use Rattle.ae_decide.proofs.overlaps.stepped.Given as goal

abbrev pub invariant-loop-rule : goal.invariant-loop-rule
invariant-loop-rule l = step_by (drop l.rule-index l.rules) l.symbol l.names ≡ step_by l.rules l.symbol l.names
