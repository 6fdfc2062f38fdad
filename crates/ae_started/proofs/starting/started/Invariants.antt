use Rattle.std.proofs.Common.{◌≡◌, [], List, take}
use Rattle.ae_journal.specs.Journals.{live, decisions}
use Rattle.ae_journal.specs.declared.lines.Line.{Line}
use Rattle.ae_sat.specs.Search.{AllNamed, IsAlive}
use Rattle.ae_started.specs.Started.{AreOwn}
use Rattle.ae_store.specs.Stores.{Stored}
use Rattle.ae_started.proofs.starting.started.Given as goal

abbrev pub invariant-loop-number : goal.invariant-loop-number
invariant-loop-number g l = record {
  alive : (store : Stored) (js : List Line) → g.T.Equalities.fits l.fn.theory store → g.T.Theory.in_step l.fn.theory (live js) → decisions (live js) ≡ [] → AllNamed store l.clauses
      → IsAlive g.T.Equalities.fits g.T.Theory.assumed g.T.Theory.fits_mark g.T.Theory.in_step store l.solver.theory l.solver.marks.items l.solver.propagation.trail l.solver.propagation.clauses l.solver.handed l.solver.expanded js;
  clauses : l.solver.propagation.clauses ≡ take l.number l.clauses;
  places : AreOwn l.number l.solver.places;
  trail : l.solver.propagation.trail ≡ [];
  expanded : l.solver.expanded ≡ 0;
  theory : l.solver.theory ≡ l.fn.theory;
}
