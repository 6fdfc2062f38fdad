use Rattle.std.proofs.Common.{List, subst}
use Rattle.std.specs.Prelude.{MatchBool}
use Rattle.ae_rules.specs.Clauses.{Clause}
use Rattle.ae_explain.specs.declared.trail.Assigned.{Assigned}
use Rattle.ae_explain.specs.Trail.{clause}
use Rattle.ae_propagation.specs.Settled.{HasTrue}
use Rattle.ae_sat.proofs.propagator.Propagator.is_satisfied.Goals as goal

pub returns : goal.returns
returns c =
    let x = clause c.args.self.now.clauses c.args.number in
    subst (λ (w : List Assigned). MatchBool c.has_true.result (HasTrue w x) (¬ HasTrue w x)) c.trail.ensures
    (subst (λ (y : Clause). MatchBool c.has_true.result (HasTrue c.trail.result.now.assigned y) (¬ HasTrue c.trail.result.now.assigned y)) c.clause_at.ensures c.has_true.ensures)
