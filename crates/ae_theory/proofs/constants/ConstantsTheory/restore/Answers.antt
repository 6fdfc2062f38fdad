use Rattle.ae_theory.proofs.Conflicts.{back_assumed, back_complete, back_conflict, back_fits, back_mark}
use Rattle.ae_theory.proofs.constants.ConstantsTheory.restore.Goals as goal

pub returns-clause-assumed : goal.returns-clause-assumed
returns-clause-assumed g c then h = back_assumed c.args.self.now c.self.inside.nodes c.self.inside.last c.args.mark.now c.self.view_is then h

pub returns-clause-complete : goal.returns-clause-complete
returns-clause-complete g c then h s n = back_complete c.args.self.now c.self.inside.nodes c.self.inside.last c.args.mark.now c.self.view_is then h n

pub returns-clause-conflicts : goal.returns-clause-conflicts
returns-clause-conflicts g c then h k n = back_conflict c.args.self.now c.self.inside.nodes c.self.inside.last c.args.mark.now c.self.view_is then h k n

pub returns-clause-fits : goal.returns-clause-fits
returns-clause-fits g c s f = back_fits c.args.self.now c.self.inside.nodes c.self.inside.last c.args.mark.now c.self.view_is s f

pub returns-clause-marks : goal.returns-clause-marks
returns-clause-marks g c m then h = back_mark c.args.self.now c.self.inside.nodes c.self.inside.last c.args.mark.now c.self.view_is m then h
