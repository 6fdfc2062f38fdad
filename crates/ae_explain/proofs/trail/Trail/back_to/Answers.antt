use Rattle.ae_explain.specs.Assignments.{number_in}
use Rattle.ae_explain.proofs.trail.Trail.back_to.Goals as goal

pub invariant_of-self : goal.invariant_of-self
invariant_of-self c = c.cut.ensures.index (number_in c.self.inside.numbers.entries) c.self.inside.places c.self.invariant
