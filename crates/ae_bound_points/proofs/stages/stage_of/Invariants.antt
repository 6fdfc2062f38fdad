use Rattle.ae_bound_points.specs.Inner.Stages.{IsLowerPart, IsUpperPart, AreTaken}
use Rattle.ae_bound_points.proofs.stages.stage_of.Given as goal

abbrev pub invariant-loop-place : goal.invariant-loop-place
invariant-loop-place l = record {
  lower : AreTaken (IsLowerPart l.name) l.rows l.place l.lowers;
  upper : AreTaken (IsUpperPart l.name) l.rows l.place l.uppers;
}
