use Rattle.std.proofs.Common.{◌∷◌, []}
use Rattle.ae_sat.proofs.Keeping.{kept_either}
use Rattle.ae_sat.proofs.propagator.Propagator.assign.Goals as goal

pub invariant_of-self : goal.invariant_of-self
invariant_of-self c =
    kept_either c.assign.result c.self.inside.settled c.self.inside.propagation.trail c.assign.new.self.trail (c.args.assigned ∷ []) c.self.inside.propagation.clauses c.assign.new.self.clauses
    c.assign.ensures.ok c.assign.ensures.err c.assign.ensures.clauses c.self.invariant
