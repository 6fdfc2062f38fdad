use Rattle.std.proofs.Common.{take}
use Rattle.ae_goal_names.specs.Named.{HasNamed, clause_terms}
use Rattle.ae_goal_names.proofs.naming.name_clause.Given as goal

abbrev pub invariant-loop-lit : goal.invariant-loop-lit
invariant-loop-lit l = HasNamed l.fn.store l.store (clause_terms (take l.lit-index l.clause))
