use Rattle.ae_conflicts.proofs.Kept.{conflict_kept}
use Rattle.ae_conflicts.proofs.laws.conflicts_are_kept.Goals as goal

pub returns : goal.returns
returns c = λ sig old new steps more before after x keeps fits kept own. conflict_kept before after kept sig old new steps more keeps fits x own
