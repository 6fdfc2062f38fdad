use Rattle.ae_values.proofs.widths.refused_by.Goals as goal

pub first_width-requires-clause-wide : goal.first_width-requires-clause-wide
first_width-requires-clause-wide c = (c.in-Wide._wide, rw c.in-Wide.is at c.requires.wide)
