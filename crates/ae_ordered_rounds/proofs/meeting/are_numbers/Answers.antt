use Rattle.std.proofs.Common.{◌∙◌}
use Rattle.ae_core.specs.Sorts.{same_numeric}
use Rattle.ae_ordered_rounds.proofs.meeting.are_numbers.Goals as goal

pub returns : goal.returns
returns c = c.same_numeric.ensures ∙ (λ i. same_numeric (c.in_ok-first.ensures i) (c.in_ok-second.ensures i))
