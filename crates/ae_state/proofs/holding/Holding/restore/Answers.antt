use Rattle.ae_state.proofs.Restoring.{assumed_is, terms_are, system_is, complete_again, conflict_again, step_again, right_again, fits_again}
use Rattle.ae_state.proofs.holding.Holding.restore.Goals as goal

pub go_back-requires : goal.go_back-requires
go_back-requires g c = record { mark = c.requires.mark }

pub returns-clause-right : goal.returns-clause-right
returns-clause-right g c =
    let then = c.requires.mark.0 in
    let h = c.requires.mark.1 in
    right_again c.args.self.now c.go_back.new.self then c.args.mark.now h (c.go_back.ensures.back then h) c.requires.right

pub returns-clause-assumed : goal.returns-clause-assumed
returns-clause-assumed g c then h = assumed_is c.args.self.now c.go_back.new.self then c.args.mark.now h (c.go_back.ensures.back then h)

pub returns-clause-complete : goal.returns-clause-complete
returns-clause-complete g c then h n = complete_again c.args.self.now c.go_back.new.self then c.args.mark.now h (c.go_back.ensures.back then h) n

pub returns-clause-names : goal.returns-clause-names
returns-clause-names g c then h = terms_are c.args.self.now c.go_back.new.self then c.args.mark.now h (c.go_back.ensures.back then h)

pub returns-clause-system : goal.returns-clause-system
returns-clause-system g c then h = system_is c.args.self.now c.go_back.new.self then c.args.mark.now h (c.go_back.ensures.back then h)

pub returns-clause-conflicts : goal.returns-clause-conflicts
returns-clause-conflicts g c then h k n = conflict_again c.args.self.now c.go_back.new.self then c.args.mark.now h (c.go_back.ensures.back then h) k n

pub returns-clause-step : goal.returns-clause-step
returns-clause-step g c then h js n = step_again c.args.self.now c.go_back.new.self then c.args.mark.now h (c.go_back.ensures.back then h) js n

pub returns-clause-fits : goal.returns-clause-fits
returns-clause-fits g c s f =
    let then = c.requires.mark.0 in
    let h = c.requires.mark.1 in
    fits_again c.args.self.now c.go_back.new.self then c.args.mark.now h (c.go_back.ensures.back then h) c.requires.right s f

pub returns-clause-marks : goal.returns-clause-marks
returns-clause-marks g c = c.go_back.ensures.marks

pub returns-clause-steps : goal.returns-clause-steps
returns-clause-steps g c = c.go_back.ensures.steps
