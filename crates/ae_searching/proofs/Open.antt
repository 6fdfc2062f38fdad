-- The trail of an open search.
use Rattle.std.specs.Prelude.{List}
use Rattle.std.proofs.Common.{subst, inl, inr}
use Rattle.ae_explain.specs.Trail.{Apart}
use Rattle.ae_explain.specs.declared.trail.Assigned.{Assigned}
use Rattle.ae_propagation.proofs.Members.{lit_cases}
use Rattle.ae_propagation.proofs.Trails.{consistent}
use Rattle.ae_propagation.specs.Settled.{Holds, IsQuiet}
use Rattle.ae_rules.specs.Clauses.{Clause}
use Rattle.ae_sat.specs.Search.{IsOpen}

-- where each clause has a true literal, no clause is false, and each one with all literals but one false has that one true
pub open_quiet : (t : List Assigned) (u : List Clause) → Apart t → IsOpen t u → IsQuiet t u
open_quiet t u apart open_all = record {
  none_false = λ k l f. let r = open_all.clauses_true k l in consistent t apart r.0 r.2 (f r.0 r.1);
  units = λ k m l h others. let r = open_all.clauses_true k l in elim (lit_cases r.0 m) as (λ _. Holds t m) [
    | inl e ↦ subst (Holds t) e r.2
    | inr d ↦ absurd (consistent t apart r.0 r.2 (others r.0 r.1 d))
  ];
}
