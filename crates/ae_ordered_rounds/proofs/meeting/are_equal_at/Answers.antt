use Rattle.ae_ordered_rounds.proofs.meeting.are_equal_at.Goals as goal

pub form_of-requires : goal.form_of-requires
form_of-requires c = record { normal = c.requires.normal }

pub meets-requires-clause-normal : goal.meets-requires-clause-normal
meets-requires-clause-normal c = c.requires.normal

pub meets-requires-clause-form : goal.meets-requires-clause-form
meets-requires-clause-form c = c.in-Some.ensures
