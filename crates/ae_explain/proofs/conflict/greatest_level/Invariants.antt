use Rattle.std.proofs.Common.{◌≡◌, drop, max}
use Rattle.ae_explain.specs.Levels.{greatest_of}
use Rattle.ae_explain.proofs.conflict.greatest_level.Given as goal

abbrev pub invariant-loop-lit : goal.invariant-loop-lit
invariant-loop-lit l = max l.greatest (greatest_of l.trail.assigned (drop l.lit-index l.clause)) ≡ greatest_of l.trail.assigned l.clause
