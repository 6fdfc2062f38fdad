use Rattle.std.proofs.Common.{◌≡◌, drop, max}
use Rattle.ae_explain.specs.Levels.{greatest_of, literals_under}
use Rattle.ae_explain.proofs.conflict.level_under.Given as goal

abbrev pub invariant-loop-lit : goal.invariant-loop-lit
invariant-loop-lit l = max l.greatest (greatest_of l.trail.assigned (literals_under l.trail.assigned l.level (drop l.lit-index l.clause))) ≡ greatest_of l.trail.assigned (literals_under l.trail.assigned l.level l.clause)
