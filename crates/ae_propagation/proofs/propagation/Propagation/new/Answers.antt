use Rattle.ae_explain.specs.Assignments.{number_in}
use Rattle.ae_propagation.proofs.propagation.Propagation.new.Goals as goal

pub invariant_of-result : goal.invariant_of-result
invariant_of-result c = c.no_clauses.ensures.coded (number_in c.new.result.numbers) c.new.ensures.numbers
