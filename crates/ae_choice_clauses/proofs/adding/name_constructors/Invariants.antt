use Rattle.std.proofs.Common.{take, map}
use Rattle.ae_choice_clauses.specs.Inner.Added.{constant}
use Rattle.ae_choice_clauses.proofs.adding.name_constructors.Given as goal
use Rattle.ae_goal_names.specs.Named.{HasNamed}

abbrev pub invariant-loop-head : goal.invariant-loop-head
invariant-loop-head l = HasNamed l.fn.store l.store (map constant (take l.head-index l.heads))
