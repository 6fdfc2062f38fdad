use Rattle.ae_sorted_instances.proofs.Axioms.{hypothesis_sorted, hypothesis_stated}
use Rattle.ae_sorted_instances.proofs.laws.instances_are_sorted.Goals as goal

pub returns-clause-sorted : goal.returns-clause-sorted
returns-clause-sorted c p g k ss f lawful closed e = hypothesis_sorted p lawful ss closed g k f e

pub returns-clause-stated : goal.returns-clause-stated
returns-clause-stated c p g k ss f lawful closed e = hypothesis_stated p lawful ss closed g k f e
