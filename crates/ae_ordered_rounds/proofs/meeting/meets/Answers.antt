use Rattle.ae_ordered_rounds.proofs.meeting.meets.Goals as goal

pub form_of-requires : goal.form_of-requires
form_of-requires c = record { normal = c.requires.normal }

pub meet-requires-clause-left : goal.meet-requires-clause-left
meet-requires-clause-left c = c.requires.form

pub meet-requires-clause-right : goal.meet-requires-clause-right
meet-requires-clause-right c = c.in-Some.ensures
