-- A trail with the clauses that it is propagated through.
use Rattle.std.specs.Prelude.{List}
use Rattle.ae_rules.specs.Clauses.{Clause}
use Rattle.ae_explain.specs.declared.trail.Assigned.{Assigned}

pub record Contents : Type 0 where
  pub trail : List Assigned
  pub clauses : List Clause
