use Rattle.ae_literal_rows.proofs.trails.add_unless.Goals as goal

pub returns-then-left_out-clause-of_tags : goal.returns-then-left_out-clause-of_tags
returns-then-left_out-clause-of_tags c h = h

pub returns-clause-of_tags : goal.returns-clause-of_tags
returns-clause-of_tags c h = c.add_row.ensures.of_tags h
