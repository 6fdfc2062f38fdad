use Rattle.ae_ordered_rounds.proofs.pending.next_pending.Goals as goal

pub returns-in-Some : goal.returns-in-Some
returns-in-Some c = c.first_pending.ensures
