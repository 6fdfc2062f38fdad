use Rattle.std.proofs.Common.{sym, subst}
use Rattle.ae_state.specs.declared.holding.Holding.{Holding}
use Rattle.ae_state.specs.Marks.{FitsMark}
use Rattle.ae_turns.specs.Budget.{MayNote}
use Rattle.ae_combine.proofs.Knowing.{known_assumed}
use Rattle.ae_combine.proofs.state.StateTheory.assume.Goals as goal

pub invariant_of-self : goal.invariant_of-self
invariant_of-self c = (
  (c.assume.ensures.fits).right,
  known_assumed c.self.inside.held c.assume.new.self c.self.invariant.0 c.assume.ensures.front c.assume.ensures.others c.assume.result (record { lit = c.args.lit.now; tag = c.args.tag }) c.assume.ensures.ok c.assume.ensures.err
      c.self.inside.complete_for c.self.invariant.1,
)

pub returns-clause-marks : goal.returns-clause-marks
returns-clause-marks c m then h = (c.assume.ensures.marks m.held then (subst (λ (o : Holding). FitsMark o m.held then) (sym c.self.view_is) h.0), h.1)

pub returns-clause-budget : goal.returns-clause-budget
returns-clause-budget c n h =
    let s = c.args.store.now in
    subst (λ (o : Holding). MayNote o s n) (sym c.assume.ensures.others) (subst (λ (o : Holding). MayNote o s n) (sym c.self.view_is) h)
