use Rattle.std.proofs.Common.{◌∙◌, length, ap, subst}
use Rattle.ae_propagation.specs.Settled.{Ends}
use Rattle.ae_propagation.specs.declared.settle.Settled.{Settled}
use Rattle.ae_sat.proofs.Keeping.{kept_quiet}
use Rattle.ae_sat.proofs.propagator.Propagator.settle.Goals as goal

pub invariant_of-self-in-Quiet : goal.invariant_of-self-in-Quiet
invariant_of-self-in-Quiet c =
    let n = c.settle_behind.new.propagation in
    kept_quiet n.trail n.clauses c.len.result (c.len.ensures ∙ ap length c.trail.ensures) (subst (λ (r : Settled). Ends n.trail n.clauses r) c.in-Quiet.is c.in_ok-end.ensures.ends)
