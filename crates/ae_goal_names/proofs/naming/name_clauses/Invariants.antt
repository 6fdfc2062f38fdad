use Rattle.std.proofs.Common.{take}
use Rattle.ae_goal_names.specs.Named.{HasNamed, all_terms}
use Rattle.ae_goal_names.proofs.naming.name_clauses.Given as goal

abbrev pub invariant-loop-clause : goal.invariant-loop-clause
invariant-loop-clause l = HasNamed l.fn.store l.store (all_terms (take l.clause-index l.clauses))
