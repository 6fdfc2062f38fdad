use Rattle.ae_state.proofs.Standing.{larger_fit, silent_keeps}
use Rattle.ae_state.proofs.laws.what_changes_nothing.Goals as goal

pub returns-clause-fits_more : goal.returns-clause-fits_more
returns-clause-fits_more c = larger_fit

pub returns-clause-silent : goal.returns-clause-silent
returns-clause-silent c = silent_keeps
