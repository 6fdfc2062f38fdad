use Rattle.ae_ordered_rounds.proofs.ordering.strict_found.Goals as goal

pub some_ordered-requires : goal.some_ordered-requires
some_ordered-requires v c = record { fine = c.requires.fine }

pub short_strict_found-requires-clause-between : goal.short_strict_found-requires-clause-between
short_strict_found-requires-clause-between v c = c.requires.between

pub short_strict_found-requires-clause-is_open : goal.short_strict_found-requires-clause-is_open
short_strict_found-requires-clause-is_open v c = c.requires.is_open

pub returns : goal.returns
returns v c = c.short_strict_found.ensures
