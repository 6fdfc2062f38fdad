use Rattle.std.proofs.Common.{◌≡◌, ◌-◌, ℕ, List, length}
use Rattle.ae_journal.specs.declared.lines.Line.{Line}
use Rattle.ae_sat.specs.Search.{IsAlive}
use Rattle.ae_sat.proofs.solver.Solver.tell_all.Given as goal

abbrev pub invariant-loop-self : goal.invariant-loop-self
invariant-loop-self g l = record {
  alive : (js : List Line) → IsAlive g.T.Equalities.fits g.T.Theory.assumed g.T.Theory.fits_mark g.T.Theory.in_step l.store l.fn.self.theory l.fn.self.marks.items l.fn.self.propagation.trail l.fn.self.propagation.clauses l.fn.self.handed
      l.fn.self.expanded js → IsAlive g.T.Equalities.fits g.T.Theory.assumed g.T.Theory.fits_mark g.T.Theory.in_step l.store l.self.theory l.self.marks.items l.self.propagation.trail l.self.propagation.clauses l.self.handed l.self.expanded js;
  budget : (n : ℕ) → g.T.Theory.may_note l.fn.self.theory l.store n → g.T.Theory.may_note l.self.theory l.store n;
  trail : l.self.propagation.trail ≡ l.fn.self.propagation.trail;
  clauses : l.self.propagation.clauses ≡ l.fn.self.propagation.clauses;
  places : l.self.places ≡ l.fn.self.places;
  expanded : l.self.expanded ≡ l.fn.self.expanded;
}

abbrev pub decreases-loop-self : goal.decreases-loop-self
decreases-loop-self g l = length l.self.propagation.trail - l.self.handed
