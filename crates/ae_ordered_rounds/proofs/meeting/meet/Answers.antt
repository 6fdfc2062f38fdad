use Rattle.ae_ordered_rounds.proofs.meeting.meet.Goals as goal

pub difference-requires-clause-left : goal.difference-requires-clause-left
difference-requires-clause-left c = c.requires.left

pub difference-requires-clause-right : goal.difference-requires-clause-right
difference-requires-clause-right c = c.requires.right
