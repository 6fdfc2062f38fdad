use Rattle.std.specs.Prelude.{[], ◌∷◌, ◌++◌}
use Rattle.std.proofs.Common.{sym, ap, ◌∙◌}
use Rattle.std.proofs.lemmas.Result.{on_ok_weaker, on_err_weaker}
use Rattle.ae_equations.proofs.QueueLaws.{on_err_always}
use Rattle.ae_conflicts.specs.Saying.{tagged}
use Rattle.ae_state.proofs.AssumedLiterals.{others_kept, shapes_kept, both_ok, both_err, by_result, step_kept, marks_kept, terms_kept, right_refused, conflict_refused, conflict_assumed, right_assumed}
use Rattle.ae_state.proofs.Learnt.{others_learnt, assumed_learnt, marks_learnt, step_learnt, conflict_learnt}
use Rattle.ae_state.proofs.Putting.{assumed_more}
use Rattle.ae_state.proofs.holding.Holding.assume.Goals as goal

pub learn-requires : goal.learn-requires
learn-requires c = record { fits = c.requires.fits }

pub said_of-requires : goal.said_of-requires
said_of-requires c = record { same = sym ((c.learn.ensures.fits).terms).signature }

pub returns-in_err-learn-clause-err : goal.returns-in_err-learn-clause-err
returns-in_err-learn-clause-err c = on_err_always _ (assumed_learnt c.args.self.now c.learn.new.self c.learn.ensures.front c.learn.ensures.others)

pub returns-in_err-learn-clause-fits : goal.returns-in_err-learn-clause-fits
returns-in_err-learn-clause-fits c = c.learn.ensures.fits

pub returns-in_err-learn-clause-marks : goal.returns-in_err-learn-clause-marks
returns-in_err-learn-clause-marks c m then h = marks_learnt c.args.self.now c.learn.new.self c.learn.ensures.front c.learn.ensures.others m then h

pub returns-in_err-learn-clause-conflicts : goal.returns-in_err-learn-clause-conflicts
returns-in_err-learn-clause-conflicts c k h = conflict_learnt c.args.self.now c.learn.new.self c.learn.ensures.front c.learn.ensures.others (c.requires.fits).right k h

pub returns-in_err-learn-clause-step : goal.returns-in_err-learn-clause-step
returns-in_err-learn-clause-step c js h = step_learnt c.args.self.now c.learn.new.self c.learn.ensures.front c.learn.ensures.others (c.requires.fits).right js h

pub returns-in_err-said-clause-err : goal.returns-in_err-said-clause-err
returns-in_err-said-clause-err c = on_err_always _ (assumed_learnt c.args.self.now c.learn.new.self c.learn.ensures.front c.learn.ensures.others)

pub returns-in_err-said-clause-fits : goal.returns-in_err-said-clause-fits
returns-in_err-said-clause-fits c = c.learn.ensures.fits

pub returns-in_err-said-clause-marks : goal.returns-in_err-said-clause-marks
returns-in_err-said-clause-marks c m then h = marks_learnt c.args.self.now c.learn.new.self c.learn.ensures.front c.learn.ensures.others m then h

pub returns-in_err-said-clause-conflicts : goal.returns-in_err-said-clause-conflicts
returns-in_err-said-clause-conflicts c k h = conflict_learnt c.args.self.now c.learn.new.self c.learn.ensures.front c.learn.ensures.others (c.requires.fits).right k h

pub returns-in_err-said-clause-step : goal.returns-in_err-said-clause-step
returns-in_err-said-clause-step c js h = step_learnt c.args.self.now c.learn.new.self c.learn.ensures.front c.learn.ensures.others (c.requires.fits).right js h

pub returns-clause-ok : goal.returns-clause-ok
returns-clause-ok c =
    on_ok_weaker c.put.result (λ e. assumed_more c.learn.new.self (c.learn.ensures.fits).right c.put.new.self.assumed c.put.new.self.said (record { lit = c.args.lit.now; tag = c.args.tag })
    c.in_ok-said.said e ∙ ap (λ ts. ts ++ record { lit = c.args.lit.now; tag = c.args.tag } ∷ [])
    (assumed_learnt c.args.self.now c.learn.new.self c.learn.ensures.front c.learn.ensures.others))
    c.put.ensures.assumed

pub returns-clause-err : goal.returns-clause-err
returns-clause-err c = on_err_weaker c.put.result (λ e. ap tagged e ∙ assumed_learnt c.args.self.now c.learn.new.self c.learn.ensures.front c.learn.ensures.others) c.put.ensures.err

pub returns-clause-fits : goal.returns-clause-fits
returns-clause-fits c =
    let t = (c.learn.ensures.fits).terms in
    record {
      right =
          by_result c.put.result
          (right_assumed c.learn.new.self c.put.new.self c.put.ensures.others (c.learn.ensures.fits).right c.put.ensures.before (record { lit = c.args.lit.now; tag = c.args.tag })
          c.in_ok-said.said c.args.store.now c.len-store.ensures.store t
          c.in_ok-learn.ensures.all c.requires.named c.in_ok-said.ensures) (right_refused c.learn.new.self c.put.new.self c.put.ensures.others (c.learn.ensures.fits).right c.put.ensures.before)
          (both_ok _ _ c.put.result (both_ok _ _ c.put.result c.put.ensures.assumed c.put.ensures.next) c.put.ensures.said) (both_err _ _ c.put.result c.put.ensures.err c.put.ensures.err_next);
      terms = terms_kept c.learn.new.self c.put.new.self c.put.ensures.others c.args.store.now t;
    }

pub returns-clause-marks : goal.returns-clause-marks
returns-clause-marks c m then h = marks_kept c.learn.new.self c.put.new.self c.put.ensures.others c.put.ensures.assumed_lasts c.put.ensures.said_lasts
    m then (marks_learnt c.args.self.now c.learn.new.self c.learn.ensures.front c.learn.ensures.others m then h)

pub returns-clause-conflicts : goal.returns-clause-conflicts
returns-clause-conflicts c k h =
    let before = conflict_learnt c.args.self.now c.learn.new.self c.learn.ensures.front c.learn.ensures.others (c.requires.fits).right k h in
    by_result c.put.result (conflict_assumed c.learn.new.self c.put.new.self c.put.ensures.others (c.learn.ensures.fits).right c.put.ensures.before (record { lit = c.args.lit.now; tag = c.args.tag })
    c.in_ok-said.said k before)
    (conflict_refused c.learn.new.self c.put.new.self c.put.ensures.others (c.learn.ensures.fits).right c.put.ensures.before k before) (both_ok _ _ c.put.result c.put.ensures.assumed c.put.ensures.next) (both_err _ _ c.put.result c.put.ensures.err c.put.ensures.err_next)

pub returns-clause-step : goal.returns-clause-step
returns-clause-step c js h = step_kept c.learn.new.self c.put.new.self c.put.ensures.others js (step_learnt c.args.self.now c.learn.new.self c.learn.ensures.front c.learn.ensures.others (c.requires.fits).right js h)

pub returns-in_err-learn-clause-front : goal.returns-in_err-learn-clause-front
returns-in_err-learn-clause-front c = c.learn.ensures.front

pub returns-in_err-said-clause-front : goal.returns-in_err-said-clause-front
returns-in_err-said-clause-front c = c.learn.ensures.front

pub returns-clause-front : goal.returns-clause-front
returns-clause-front c = shapes_kept c.args.self.now c.learn.new.self c.put.new.self c.learn.ensures.front c.put.ensures.others

pub returns-in_err-learn-clause-others : goal.returns-in_err-learn-clause-others
returns-in_err-learn-clause-others c = others_learnt c.args.self.now c.learn.new.self c.learn.ensures.front c.learn.ensures.others

pub returns-in_err-said-clause-others : goal.returns-in_err-said-clause-others
returns-in_err-said-clause-others c = others_learnt c.args.self.now c.learn.new.self c.learn.ensures.front c.learn.ensures.others

pub returns-clause-others : goal.returns-clause-others
returns-clause-others c = others_kept c.args.self.now c.learn.new.self c.put.new.self c.learn.ensures.others c.put.ensures.others
