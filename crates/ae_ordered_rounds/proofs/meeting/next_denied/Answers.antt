use Rattle.ae_ordered_rounds.proofs.meeting.next_denied.Goals as goal

pub returns-in-Some : goal.returns-in-Some
returns-in-Some c = c.first_denied.ensures
