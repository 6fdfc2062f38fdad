use Rattle.std.specs.Prelude.{Ok, Err, Result}
use Rattle.std.proofs.Common.{refl, sym, ap, ◌∙◌, subst}
use Rattle.std.proofs.Math.Nat.{le_refl}
use Rattle.std.proofs.lemmas.Result.{err_from_is_err_and}
use Rattle.ae_between_rounds.proofs.Passing.{passes_run}
use Rattle.ae_between_rounds.specs.declared.search.Search.{Search}
use Rattle.ae_kept_runs.proofs.Lines.{no_fewer}
use Rattle.ae_kept_runs.proofs.Running.{between_run, notes_none, stopped_run}
use Rattle.ae_propagation.specs.Settled.{last_level}
use Rattle.ae_rounds.proofs.Failing.{failed_by}
use Rattle.ae_rounds.specs.Ended.{HasRun}
use Rattle.ae_sat.specs.declared.run.SatEnd.{SatEnd}
use Rattle.ae_theory.specs.declared.theory.Fail.{Fail}
use Rattle.ae_rounds.proofs.solving.run_solver.Goals as goal

pub run_on-requires : goal.run_on-requires
run_on-requires g c = record { alive = c.requires.between.searching.alive }

pub returns-in-Refuted : goal.returns-in-Refuted
returns-in-Refuted g c =
    let p = c.args.task.problem.now in
    let k = c.args.task.goal in
    let b = c.args.task.generations in
    let o = c.args.search.now in
    let h = c.requires.between in
    let n : Search = record o { solver = c.run_on.new.solver; journal = c.run_on.new.journal; lines = c.run_on.new.lines } in
    let level = last_level o.solver.propagation.trail in
    let e = c.in_ok-run_on.ensures in
    record {
      run = (
        between_run p k b o n h (e.searching p k b level o.blocks.opened (le_refl level) h.searching) e.kept e.formulas e.lines
            (notes_none p k b o n h (λ x told. c.run_on.ensures.instances p k b level o.blocks.opened (le_refl level) h.searching x told)),
        c.run_on.ensures.refuted (c.in_ok-run_on.was ∙ ap (λ (x : SatEnd). Ok x) c.in-Refuted.is),
      );
      limit = c.run_on.ensures.journal.limit;
    }

pub returns-in-Open : goal.returns-in-Open
returns-in-Open g c =
    let p = c.args.task.problem.now in
    let k = c.args.task.goal in
    let b = c.args.task.generations in
    let o = c.args.search.now in
    let h = c.requires.between in
    let n : Search = record o { solver = c.run_on.new.solver; journal = c.run_on.new.journal; lines = c.run_on.new.lines } in
    let level = last_level o.solver.propagation.trail in
    let e = c.in_ok-run_on.ensures in
    let open_now = c.in_ok-run_on.was ∙ ap (λ (x : SatEnd). Ok x) c.in-Open.is in
    record {
      run = record {
        between = between_run p k b o n h (e.searching p k b level o.blocks.opened (le_refl level) h.searching) e.kept e.formulas e.lines
            (notes_none p k b o n h (λ x told. c.run_on.ensures.instances p k b level o.blocks.opened (le_refl level) h.searching x told));
        is_open = record { all_true = c.run_on.ensures.open_clauses open_now; told = c.run_on.ensures.told open_now; complete = c.run_on.ensures.complete open_now };
        lines = no_fewer o.store o.solver.propagation.clauses o.lines.items c.run_on.new.lines.items e.lines;
        passes = passes_run o n refl refl (λ same. (c.run_on.ensures.still open_now same).front) c.run_on.ensures.journal;
        blocks = refl;
        counted = c.run_on.ensures.journal.more;
        kept = e.kept;
        over = e.formulas;
        still = c.run_on.ensures.still open_now;
      };
      limit = c.run_on.ensures.journal.limit;
    }

pub returns-in_err-run_on : goal.returns-in_err-run_on
returns-in_err-run_on g c =
    let p = c.args.task.problem.now in
    let k = c.args.task.goal in
    let b = c.args.task.generations in
    let o = c.args.search.now in
    let h = c.requires.between in
    let n : Search = record o { solver = c.run_on.new.solver; journal = c.run_on.new.journal; lines = c.run_on.new.lines } in
    let level = last_level o.solver.propagation.trail in
    let e = c.run_on.ensures in
    let q = err_from_is_err_and c.from_residual.result c.from_residual.ensures.1 in
    let stopped = stopped_run p k b o n h (e.so_far p k b level o.blocks.opened (le_refl level) h.searching) in
    record {
      run = subst (λ (r : Result SatEnd Fail). HasRun p k b o n r) (sym (q.1 ∙ ap (λ (f : Fail). Err f) q.2))
          (failed_by p k b n c.in_err-run_on.field-0.0 (λ i. (stopped, e.steps (c.in_err-run_on.was ∙ ap (λ (f : Fail). Err f) i)))
          (λ wide i. (stopped, λ x told. e.number wide (c.in_err-run_on.was ∙ ap (λ (f : Fail). Err f) i) p k b level o.blocks.opened (le_refl level) h.searching x told)));
      limit = c.run_on.ensures.journal.limit;
    }
