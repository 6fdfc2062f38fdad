use Rattle.std.specs.Prelude.{ℕ, ◌-◌, ◌≡◌, List, true, length}
use Rattle.std.specs.List.{AllByRecursion}
use Rattle.ae_journal.specs.Standing.{Setting}
use Rattle.ae_journal.specs.declared.lines.Line.{Line}
use Rattle.ae_sure_literals.specs.Inner.Closing.{AreRight, Forces, flag, how_many}
use Rattle.ae_sure_literals.proofs.closing.close.Given as goal

abbrev pub invariant-rounds : goal.invariant-rounds
invariant-rounds l = record {
  long : length l.flags ≡ length l.fn.flags;
  kept : (k : ℕ) → flag l.fn.flags k ≡ true → flag l.flags k ≡ true;
  right : (x : Setting) (js : List Line) → AllByRecursion (Forces x js) l.clauses → AreRight x js l.trail.assigned l.fn.flags → AreRight x js l.trail.assigned l.flags;
}

abbrev pub decreases-rounds : goal.decreases-rounds
decreases-rounds l = length l.flags - how_many l.flags
