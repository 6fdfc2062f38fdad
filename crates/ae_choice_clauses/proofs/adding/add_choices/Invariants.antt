use Rattle.ae_choice_clauses.specs.Inner.Added.{HasAdded}
use Rattle.ae_choice_clauses.proofs.adding.add_choices.Given as goal

abbrev pub invariant-loop-name : goal.invariant-loop-name
invariant-loop-name l = HasAdded l.signature l.name l.fn.store l.store l.fn.first.lines.items l.first.lines.items l.fn.first.clauses l.first.clauses
