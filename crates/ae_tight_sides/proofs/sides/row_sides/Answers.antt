use Rattle.ae_tight_sides.proofs.sides.row_sides.Goals as goal

pub other_side-requires-clause-normal : goal.other_side-requires-clause-normal
other_side-requires-clause-normal c = c.requires.normal

pub other_side-requires-clause-names : goal.other_side-requires-clause-names
other_side-requires-clause-names c = c.requires.names

pub side-requires : goal.side-requires
side-requires c = c.requires.names

pub returns-clause-left : goal.returns-clause-left
returns-clause-left c = c.in_ok-left.ensures

pub returns-clause-right : goal.returns-clause-right
returns-clause-right c = c.in_ok-right.ensures
