use Rattle.ae_ordered_rounds.proofs.choosing.has_order.Goals as goal

pub tight_sides-requires-clause-right : goal.tight_sides-requires-clause-right
tight_sides-requires-clause-right c = c.requires.fine.right

pub tight_sides-requires-clause-normal : goal.tight_sides-requires-clause-normal
tight_sides-requires-clause-normal c = c.requires.fine.normal
