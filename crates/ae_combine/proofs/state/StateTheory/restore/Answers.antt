use Rattle.std.proofs.Common.{sym, ◌∙◌, subst}
use Rattle.ae_state.specs.declared.holding.Holding.{Holding}
use Rattle.ae_state.specs.Fitting.{FitsStore}
use Rattle.ae_state.specs.Marks.{FitsMark}
use Rattle.ae_combine.proofs.Knowing.{known_again}
use Rattle.ae_combine.proofs.state.StateTheory.restore.Goals as goal

pub restore-requires-clause-right : goal.restore-requires-clause-right
restore-requires-clause-right g c = c.self.invariant.0

pub restore-requires-clause-mark : goal.restore-requires-clause-mark
restore-requires-clause-mark g c = (c.requires.mark.0, subst (λ (o : Holding). FitsMark o c.args.mark.now.held c.requires.mark.0) (sym c.self.view_is) c.requires.mark.1.0)

pub invariant_of-self : goal.invariant_of-self
invariant_of-self g c =
    let then = c.requires.mark.0 in
    let h = subst (λ (o : Holding). FitsMark o c.args.mark.now.held then) (sym c.self.view_is) c.requires.mark.1.0 in (
      c.restore.ensures.right,
      known_again then c.restore.new.self (c.restore.ensures.marks c.args.mark.now.held then h).signature (c.restore.ensures.system then h) (c.restore.ensures.assumed then h) c.args.mark.now.complete_for c.requires.mark.1.1,
    )

pub returns-clause-assumed : goal.returns-clause-assumed
returns-clause-assumed g c then h = c.restore.ensures.assumed then (subst (λ (o : Holding). FitsMark o c.args.mark.now.held then) (sym c.self.view_is) h.0)

pub returns-clause-complete : goal.returns-clause-complete
returns-clause-complete g c then h s n =
    let k = subst (λ (o : Holding). FitsMark o c.args.mark.now.held then) (sym c.self.view_is) h.0 in
    (c.restore.ensures.complete then k n.0, c.restore.ensures.names then k ∙ n.1)

pub returns-clause-conflicts : goal.returns-clause-conflicts
returns-clause-conflicts g c then h k n = c.restore.ensures.conflicts then (subst (λ (o : Holding). FitsMark o c.args.mark.now.held then) (sym c.self.view_is) h.0) k n

pub returns-clause-step : goal.returns-clause-step
returns-clause-step g c then h js n = c.restore.ensures.step then (subst (λ (o : Holding). FitsMark o c.args.mark.now.held then) (sym c.self.view_is) h.0) js n

pub returns-clause-fits : goal.returns-clause-fits
returns-clause-fits g c s f = c.restore.ensures.fits s (subst (λ (o : Holding). FitsStore o s) (sym c.self.view_is) f)

pub returns-clause-marks : goal.returns-clause-marks
returns-clause-marks g c m then h = (c.restore.ensures.marks m.held then (subst (λ (o : Holding). FitsMark o m.held then) (sym c.self.view_is) h.0), h.1)
