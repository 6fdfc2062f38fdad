use Rattle.ae_ordered_rounds.proofs.ordering.inequality_round.Goals as goal

pub pending_round-requires-clause-between : goal.pending_round-requires-clause-between
pending_round-requires-clause-between v c = c.requires.between

pub pending_round-requires-clause-is_open : goal.pending_round-requires-clause-is_open
pending_round-requires-clause-is_open v c = c.requires.is_open

pub pending_round-requires-clause-served : goal.pending_round-requires-clause-served
pending_round-requires-clause-served v c = c.requires.served

pub pending_round-requires-clause-ordered : goal.pending_round-requires-clause-ordered
pending_round-requires-clause-ordered v c = c.requires.ordered

pub pending_round-requires-clause-orders : goal.pending_round-requires-clause-orders
pending_round-requires-clause-orders v c = c.requires.orders

pub pending_round-requires-clause-inequal : goal.pending_round-requires-clause-inequal
pending_round-requires-clause-inequal v c = c.requires.inequal

pub solve_round-requires-clause-between : goal.solve_round-requires-clause-between
solve_round-requires-clause-between v c = c.requires.between

pub solve_round-requires-clause-is_open : goal.solve_round-requires-clause-is_open
solve_round-requires-clause-is_open v c = c.requires.is_open

pub solve_round-requires-clause-served : goal.solve_round-requires-clause-served
solve_round-requires-clause-served v c = c.requires.served

pub solve_round-requires-clause-ordered : goal.solve_round-requires-clause-ordered
solve_round-requires-clause-ordered v c = c.requires.ordered

pub solve_round-requires-clause-orders : goal.solve_round-requires-clause-orders
solve_round-requires-clause-orders v c = c.requires.orders

pub solve_round-requires-clause-inequal : goal.solve_round-requires-clause-inequal
solve_round-requires-clause-inequal v c = c.requires.inequal

pub returns-then-pending-clause-comes : goal.returns-then-pending-clause-comes
returns-then-pending-clause-comes v c = c.pending_round.ensures.comes

pub returns-clause-comes : goal.returns-clause-comes
returns-clause-comes v c = c.solve_round.ensures.comes
