use Rattle.std.specs.Prelude.{Ok}
use Rattle.std.proofs.Common.{ap, ◌∙◌}
use Rattle.ae_inequalities.specs.declared.answer.Ineq.{Ineq}
use Rattle.ae_strict_rows.proofs.strict.found_within.Goals as goal

pub found_without-requires-clause-fits : goal.found_without-requires-clause-fits
found_without-requires-clause-fits c = c.requires.fits

pub found_without-requires-clause-taken : goal.found_without-requires-clause-taken
found_without-requires-clause-taken c = c.requires.taken

pub found_without-requires-clause-opaque : goal.found_without-requires-clause-opaque
found_without-requires-clause-opaque c = c.requires.opaque

pub found_without-requires-clause-told : goal.found_without-requires-clause-told
found_without-requires-clause-told c = c.requires.told

pub returns-in-Ok-Contradiction : goal.returns-in-Ok-Contradiction
returns-in-Ok-Contradiction c = c.found_without.ensures c.in-Ok-Contradiction.explained (c.in-Ok-Contradiction.is ∙ ap (λ (x : Ineq). Ok x) c.in-Ok-Contradiction.field-0-is)
