use Rattle.ae_sat.proofs.Layering.{layered_cut, layered_new, learnt_rests}
use Rattle.ae_sat.proofs.laws.levels_rest.Goals as goal
use Rattle.ae_journal.specs.Standing.{IsGiven}

pub returns-clause-layers : goal.returns-clause-layers
returns-clause-layers c setting js t cut level = layered_cut t cut level (IsGiven setting js)

pub returns-clause-new : goal.returns-clause-new
returns-clause-new c t cut level new = layered_new t cut level new

pub returns-clause-learnt : goal.returns-clause-learnt
returns-clause-learnt c t cut level apart top d o s = learnt_rests t cut apart level top d o s
