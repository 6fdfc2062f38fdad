use Rattle.std.proofs.Common.{ℕ, ◌≡◌, List, arith, subst, sym}
use Rattle.ae_explain.specs.declared.trail.Assigned.{Assigned}
use Rattle.ae_made_instances.proofs.noting.rest_level.Goals as goal
use Rattle.ae_rules.specs.Clauses.{Clause}
use Rattle.ae_sat.specs.Layers.{Fires}

-- by the trail and the clause as they are read
fires_read : (t u : List Assigned) (c d : Clause) (k : ℕ) → u ≡ t → d ≡ c → Fires t c k → Fires u d k
fires_read t u c d k et ec f = subst (λ (z : Clause). Fires u z k) (sym ec) (subst (λ (z : List Assigned). Fires z c k) (sym et) f)

pub returns-in-None : goal.returns-in-None
returns-in-None c = record {
  within = omega arith;
  rests = λ k lt f. c.in-None.ensures k (fires_read c.args.solver.now.propagation.trail c.trail.result.now.assigned c.args.line.now.clause c.as_slice.result.now k c.trail.ensures c.as_slice.ensures f);
}

pub returns-in-Some : goal.returns-in-Some
returns-in-Some c = record {
  within = (let m = c.min.ensures in omega (arith, m));
  rests = λ k lt f.
      c.in-Some.ensures.1 k (let m = c.min.ensures in omega (arith, lt, m))
      (fires_read c.args.solver.now.propagation.trail c.trail.result.now.assigned c.args.line.now.clause c.as_slice.result.now k c.trail.ensures c.as_slice.ensures f);
}
