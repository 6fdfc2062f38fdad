use Rattle.std.proofs.Common.{sym, subst}
use Rattle.std.proofs.lemmas.Result.{IfOk-from_err}
use Rattle.ae_journal.specs.States.{IsSaturated}
use Rattle.ae_journal.specs.declared.systems.Saturated.{Saturated}
use Rattle.ae_rounds.proofs.Written.{state_writable}
use Rattle.ae_writable.specs.Writable.{IsWritableState}
use Rattle.ae_rounds.proofs.answering.open_answer.Goals as goal

pub state_of-requires : goal.state_of-requires
state_of-requires g c = record { fits = c.requires.settled.finished.between.searching.alive.fits_store }

pub returns-in_err-state : goal.returns-in_err-state
returns-in_err-state g c = record { answer = IfOk-from_err c.from_residual.result _ c.from_residual.ensures.0; written = λ low. IfOk-from_err c.from_residual.result _ c.from_residual.ensures.0 }

pub returns : goal.returns
returns g c =
    let p = c.args.task.problem.now in
    let k = c.args.task.goal in
    let b = c.args.task.generations in
    let o = c.args.search.now in
    let w = c.requires.settled in
    let is = c.in_ok-state.ensures.is in
    record {
      answer = subst (λ (x : Saturated). IsSaturated p k x b) (sym is) (c.finished_rounds_are_saturated.ensures p k b o c.args.point w.finished);
      written = λ low. subst (λ (x : Saturated). IsWritableState p.signature x) (sym is) (state_writable p k b o c.args.point w.finished low c.in_ok-state.ensures.rules w.written);
    }
