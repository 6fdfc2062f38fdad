use Rattle.ae_ineq.specs.Inner.Sets.{name_reach}
use Rattle.ae_bound_points.specs.Inner.Stages.{AreStaged}
use Rattle.ae_bound_points.proofs.stages.stages_of.Given as goal

abbrev pub invariant-names : goal.invariant-names
invariant-names l = AreStaged l.rows (name_reach l.next) l.stages

abbrev pub decreases-names : goal.decreases-names
decreases-names l = name_reach l.next
