use Rattle.std.proofs.Common.{◌≡◌, ◌⊎◌, ◌<◌, ℕ, ◌-◌}
use Rattle.ae_core.specs.declared.problems.Problem.{Problem}
use Rattle.ae_journal.specs.Journals.{counted_in}
use Rattle.ae_sat.specs.Apart.{IsFresh}
use Rattle.ae_sat.specs.Inner.Steps.{Enlarges}
use Rattle.ae_sat.specs.Search.{IsAlive, IsStated, IsLawfulState, NotesLegally, Keeps}
use Rattle.ae_sat.proofs.solver.Solver.run.Given as goal
use Rattle.ae_journal.specs.Standing.{Setting}
use Rattle.ae_theory.specs.Names.{IsNamedBy}

abbrev pub invariant-loop-k : goal.invariant-loop-k
invariant-loop-k g l = record {
  alive : IsAlive g.T.Equalities.fits g.T.Theory.assumed g.T.Theory.fits_mark g.T.Theory.in_step l.store l.self.theory l.self.marks.items l.self.propagation.trail l.self.propagation.clauses l.self.handed l.self.expanded l.journal.lines;
  stated : (p : Problem) (n : ℕ) → p.signature ≡ l.store.signature → IsStated p n l.fn.lines.items l.fn.self.propagation.clauses l.fn.self.places → IsStated p n l.lines.items l.self.propagation.clauses l.self.places;
  legal : (setting : Setting) (bound : ℕ) → IsNamedBy setting l.store l.fn.journal.lines → IsStated setting.problem setting.goal l.fn.lines.items l.fn.self.propagation.clauses l.fn.self.places
      → IsLawfulState setting l.fn.self.propagation.trail l.fn.self.propagation.clauses l.fn.self.expanded l.fn.lines.items l.fn.journal.lines
      → NotesLegally setting bound l.fn.journal.lines l.journal.lines × IsLawfulState setting l.self.propagation.trail l.self.propagation.clauses l.self.expanded l.lines.items l.journal.lines;
  enlarges : Enlarges l.store l.fn.self.propagation.clauses l.fn.lines.items l.self.propagation.clauses l.lines.items;
  -- from a fresh start the search ends in its first turn
  fresh : IsFresh l.fn.self.propagation.trail l.fn.self.propagation.clauses → IsFresh l.self.propagation.trail l.self.propagation.clauses;
  budget : IsFresh l.fn.self.propagation.trail l.fn.self.propagation.clauses → (n : ℕ) → g.T.Theory.may_note l.fn.self.theory l.store n
      → g.T.Theory.may_note l.self.theory l.store n × (counted_in l.journal.lines ≡ counted_in l.fn.journal.lines);
  -- the trail and the clauses are as they were, or a counted line was noted
  still : ((l.self.propagation.trail ≡ l.fn.self.propagation.trail) × (l.self.propagation.clauses ≡ l.fn.self.propagation.clauses)) ⊎ (counted_in l.fn.journal.lines < counted_in l.journal.lines);
  journal : Keeps l.fn.journal l.journal;
}

abbrev pub decreases-loop-k : goal.decreases-loop-k
decreases-loop-k g l = l.journal.limit - counted_in l.journal.lines
