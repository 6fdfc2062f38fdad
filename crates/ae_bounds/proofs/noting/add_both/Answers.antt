use Rattle.ae_bounds.proofs.noting.add_both.Goals as goal

pub is_least-requires : goal.is_least-requires
is_least-requires c = c.requires.normal.within.1.0

pub add_two-requires-clause-more : goal.add_two-requires-clause-more
add_two-requires-clause-more c = λ l. l.least (c.is_least.ensures.no c.if-is_least.false)
