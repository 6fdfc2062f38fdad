use Rattle.ae_store.specs.Shapes.{shapes}
use Rattle.ae_store.specs.Terms.{terms}
use Rattle.ae_monoid.specs.Rules.{rule_at}
use Rattle.ae_rule_steps.proofs.Reaching.{IsReaching}
use Rattle.ae_rule_steps.proofs.reducing.reduced.Given as goal

abbrev pub invariant-turns : goal.invariant-turns
invariant-turns l = IsReaching l.store.signature (terms (shapes l.store.nodes)) (λ n. rule_at l.rules n) l.symbol l.names l.fn.justs l.justs l.now.names l.now.step
