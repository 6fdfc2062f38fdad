use Rattle.std.proofs.Common.{ℕ, true, List, [], ◌≡◌, ◌<◌, length, refl, sym, ap, ◌∙◌, subst}
use Rattle.std.specs.List.{AllByRecursion}
use Rattle.ae_between_rounds.specs.declared.search.Search.{Search}
use Rattle.ae_between_rounds.specs.Rewriting.{IsMarkOf}
use Rattle.ae_first_clauses.proofs.States.{stated}
use Rattle.ae_first_round.proofs.Begun.{all_named, clauses_sorted}
use Rattle.ae_first_round.proofs.Holding.{holds, lawful_for}
use Rattle.ae_first_round.specs.Inner.First.{IsNamedFor}
use Rattle.ae_journal.specs.Noted.{Noted}
use Rattle.ae_journal.specs.declared.lines.Line.{Line}
use Rattle.ae_rules.specs.Clauses.{Clause}
use Rattle.ae_rules.specs.Derivations.{clause_ok}
use Rattle.ae_sat.specs.Search.{AllNamed, IsStated}
use Rattle.ae_searching.specs.Searching.{IsAliveIn}
use Rattle.ae_state.specs.Fitting.{FitsStore}
use Rattle.ae_state.specs.Names.{assumed_in}
use Rattle.ae_state.specs.Stepping.{IsInStep}
use Rattle.ae_first_round.proofs.beginning.started_with.Goals as goal

pub first_named-requires-clause-lawful : goal.first_named-requires-clause-lawful
first_named-requires-clause-lawful g c = c.requires.lawful.signature

pub first_named-requires-clause-sorted : goal.first_named-requires-clause-sorted
first_named-requires-clause-sorted g c =
    let p = c.args.task.problem.now in
    subst (AllByRecursion (λ (d : Clause). clause_ok p.signature d ≡ true)) (sym c.as_slice.ensures) (clauses_sorted p c.args.task.goal c.args.first.lines.items c.args.first.clauses c.requires.first)

pub returns : goal.returns
returns g c =
    let p = c.args.task.problem.now in
    let g = c.args.task.goal in
    let n = c.args.task.generations in
    let ls = c.args.first.lines.items in
    let cs = c.args.first.clauses in
    let law = c.requires.lawful in
    let first = c.requires.first in
    let names = c.in_ok-named.named in
    let blocks = c.in_ok-opened.opened in
    let owners = c.in_ok-owners.owners in
    let solver = c.in_ok-solver.solver in
    let journal = c.in_ok-journal.journal in
    let o : Search = record {
      store = names.store;
      solver = solver;
      journal = journal;
      lines = c.args.first.lines;
      blocks = blocks;
      ages = names.ages;
      known = c.no_names.result;
      looked = 0;
      owners = owners;
      instances = c.no_instances.result;
    } in
    let named : IsNamedFor p.signature cs names.store names.ages = subst (λ (ds : List Clause). IsNamedFor p.signature ds names.store names.ages) c.as_slice.ensures c.in_ok-named.ensures in
    let clauses : solver.propagation.clauses ≡ cs = c.in_ok-solver.ensures.clauses ∙ c.as_slice-2.ensures in
    let none : journal.lines ≡ [] = ap (λ (w : Noted). w.lines) c.in_ok-journal.ensures in
    let sig : p.signature ≡ names.store.signature = sym (named.brought.named.signature ∙ named.signature) in
    let has = all_named p g ls cs first law blocks.opened blocks.next c.in_ok-opened.ensures names.store names.ages named in
    let alive = c.in_ok-solver.ensures.alive names.store (sym sig) (subst (AllNamed names.store) (sym c.as_slice-2.ensures) has) in
    let own = c.in_ok-solver.ensures.places in
    let count : length solver.places ≡ length cs = own.size ∙ ap (λ (ds : List Clause). length ds) c.as_slice-2.ensures in
    record {
      searching = c.search_is_lawful.ensures.begins p g n names.store blocks.opened ls journal.lines sig
          (subst (λ (js : List Line). IsAliveIn FitsStore assumed_in IsMarkOf IsInStep names.store solver js) (sym none) alive)
          (subst (λ (ds : List Clause). IsStated p g ls ds solver.places) (sym clauses)
          (stated p g ls cs solver.places first count (λ k lt. own.own k (subst (λ (m : ℕ). k < m) (ap (λ (ds : List Clause). length ds) (sym c.as_slice-2.ensures)) lt))))
          (lawful_for p g n law ls cs first o named c.in_ok-opened.ensures clauses refl none c.in_ok-solver.ensures.trail c.in_ok-solver.ensures.expanded);
      holds = holds p g n law ls cs first o named c.in_ok-opened.ensures clauses refl none c.in_ok-owners.ensures.right c.in_ok-owners.ensures.apart c.in_ok-owners.ensures.all
          c.no_instances.ensures.made c.no_instances.ensures.taken refl c.no_names.ensures;
      none = (none, ap (λ (w : Noted). w.limit) c.in_ok-journal.ensures);
    }
