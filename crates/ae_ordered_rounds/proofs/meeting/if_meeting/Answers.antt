use Rattle.ae_ordered_rounds.proofs.meeting.if_meeting.Goals as goal

pub are_equal_at-requires : goal.are_equal_at-requires
are_equal_at-requires c = record { normal = c.requires.normal }

pub returns-then-equal : goal.returns-then-equal
returns-then-equal c = c.open_copies.ensures
