use Rattle.std.proofs.Common.{◌∙◌}
use Rattle.std.proofs.lemmas.Option.{none-some}
use Rattle.ae_equal_steps.proofs.said.said_by.Goals as goal

pub unreachable-requires : goal.unreachable-requires
unreachable-requires c = none-some (c.requires).0 (c.in-None.ensures ∙ (c.requires).1)
