use Rattle.ae_made_instances.proofs.batch.take_next.Goals as goal

pub returns : goal.returns
returns g c = (c.ask.result, c.remove.ensures.item, c.remove.ensures.rest)
