use Rattle.std.specs.Prelude.{List}
use Rattle.std.proofs.Common.{sym, ap}
use Rattle.ae_store.specs.declared.nodes.Node.{Node}
use Rattle.ae_store.specs.Shapes.{shapes}
use Rattle.ae_store.specs.Terms.{terms}
use Rattle.ae_goal_search.proofs.starting.named_store.Goals as goal

pub name_clauses-requires-clause-same : goal.name_clauses-requires-clause-same
name_clauses-requires-clause-same c = sym c.in_ok-store.ensures.signature

pub returns : goal.returns
unfolding terms
returns c = record {
  right = c.len-count.ensures.store;
  before = c.in_ok-store.store;
  signature = c.in_ok-store.ensures.signature;
  empty = ap (λ (ns : List Node). terms (shapes ns)) c.in_ok-store.ensures.empty;
  named = c.in_ok-name_clauses.ensures;
}
