use Rattle.ae_bound_points.proofs.stages.add_row.Goals as goal

pub returns : goal.returns
returns c = record { made = c.in_ok-next.next; known = c.in_ok-next.ensures.known; is = c.in_ok-next.ensures.form; added = c.in_ok-push.ensures.ok }
