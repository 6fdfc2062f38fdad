use Rattle.ae_number_solving.proofs.solutions.scaling_refused.Goals as goal

pub scaling_width-requires-clause-wide : goal.scaling_width-requires-clause-wide
scaling_width-requires-clause-wide c = rw c.in-Wide.is at c.requires.wide
