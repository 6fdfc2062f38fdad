use Rattle.std.proofs.Common.{sym, ◌∙◌}
use Rattle.ae_data.proofs.ExhaustionLaws.{line_states}
use Rattle.ae_data.proofs.enumerations.exhaust.Goals as goal

pub returns-clause-line : goal.returns-clause-line
returns-clause-line c law p g same = line_states c.args.signature.now law c.args.term.now p g same ∙ sym c.in_ok-clause.ensures
