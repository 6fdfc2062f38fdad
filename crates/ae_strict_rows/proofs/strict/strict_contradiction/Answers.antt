use Rattle.std.proofs.Common.{subst}
use Rattle.ae_strict_rows.specs.Inner.Within.{IsRight}
use Rattle.ae_strict_rows.proofs.strict.strict_contradiction.Goals as goal

pub found_within-requires-clause-fits : goal.found_within-requires-clause-fits
found_within-requires-clause-fits c = c.requires.fits

pub found_within-requires-clause-taken : goal.found_within-requires-clause-taken
found_within-requires-clause-taken c = c.requires.taken

pub found_within-requires-clause-opaque : goal.found_within-requires-clause-opaque
found_within-requires-clause-opaque c = c.requires.opaque

pub found_within-requires-clause-told : goal.found_within-requires-clause-told
found_within-requires-clause-told c = c.requires.told

pub returns-in-Contradiction : goal.returns-in-Contradiction
returns-in-Contradiction c = subst (IsRight c.args.store.now c.args.trail.now.assigned) c.in-Contradiction.is c.in_ok-found.ensures
