use Rattle.std.proofs.Common.{List, sym, ap, ◌∙◌, subst}
use Rattle.ae_between_rounds.specs.Between.{IsSearchingBelow}
use Rattle.ae_explain.specs.declared.trail.Assigned.{Assigned}
use Rattle.ae_journal.specs.Noted.{Noted}
use Rattle.ae_propagation.specs.Settled.{last_level}
use Rattle.ae_first_round.proofs.beginning.begin.Goals as goal

pub enter_names-requires-clause-searching : goal.enter_names-requires-clause-searching
enter_names-requires-clause-searching g c = (last_level c.in_ok-search.search.solver.propagation.trail, c.in_ok-search.ensures.searching)

pub returns-in-Ok : goal.returns-in-Ok
returns-in-Ok g c =
    let p = c.args.task.problem.now in
    let g = c.args.task.goal in
    let n = c.args.task.generations in
    let o = c.in_ok-search.search in
    let m = c.enter_names.new.search in
    let e = c.in-Ok.ensures in
    record {
      between = record {
        searching = subst (λ (t : List Assigned). IsSearchingBelow p g n (last_level t) m) (sym c.enter_names.ensures.trail) (e.searching (last_level o.solver.propagation.trail) c.in_ok-search.ensures.searching);
        looked = e.looked;
        holds = e.holds;
      };
      none = (
        ap (λ (w : Noted). w.lines) c.enter_names.ensures.journal ∙ c.in_ok-search.ensures.none.0,
        ap (λ (w : Noted). w.limit) c.enter_names.ensures.journal ∙ c.in_ok-search.ensures.none.1,
      );
    }
