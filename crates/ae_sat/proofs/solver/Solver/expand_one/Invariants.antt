use Rattle.std.proofs.Common.{◌≡◌, ℕ, ◌<◌, get_or, Some}
use Rattle.ae_rules.specs.Clauses.{Clause, row}
use Rattle.ae_explain.specs.Trail.{at}
use Rattle.ae_sat.specs.Standing.{IsOneOf}
use Rattle.ae_sat.specs.Inner.Steps.{Continues}
use Rattle.ae_sat.proofs.solver.Solver.expand_one.Given as goal

abbrev pub invariant-loop-number : goal.invariant-loop-number
invariant-loop-number g l = record {
  continues : Continues g.T.Equalities.fits g.T.Theory.assumed g.T.Theory.fits_mark g.T.Theory.in_step l.fn.self.theory l.fn.self.marks.items l.fn.self.propagation.trail l.fn.self.propagation.clauses l.fn.self.places l.fn.self.handed l.fn.self.expanded
      l.fn.lines.items
      l.self.theory l.self.marks.items l.self.propagation.trail l.self.propagation.clauses l.self.places l.self.handed l.self.expanded l.lines.items;
  trail : l.self.propagation.trail ≡ l.fn.self.propagation.trail;
  expanded : l.self.expanded ≡ l.fn.self.expanded;
  has : (k r : ℕ) (c : Clause) → k < l.number-index → get_or l.number-items k r ≡ r → row r (at l.fn.self.propagation.trail l.fn.self.expanded).lit.formula ≡ Some c → IsOneOf l.self.propagation.clauses c;
}
