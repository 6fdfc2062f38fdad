use Rattle.ae_explain.specs.Assignments.{number_in}
use Rattle.ae_propagation.proofs.propagation.Propagation.detach.Goals as goal

pub give_up-requires : goal.give_up-requires
give_up-requires c = (number_in c.self.inside.trail.numbers, c.self.invariant)

pub invariant_of-self : goal.invariant_of-self
invariant_of-self c = c.give_up.ensures.coded (number_in c.self.inside.trail.numbers) c.self.invariant
