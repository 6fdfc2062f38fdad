use Rattle.ae_next_clauses.proofs.Coming.{instance_comes}
use Rattle.ae_next_clauses.proofs.laws.instances_come.Goals as goal

pub returns : goal.returns
returns c p g bound old new opened js j l d same h by e legal = instance_comes p g bound old new opened js j l d same h by e legal
