use Rattle.std.proofs.Common.{◌∙◌}
use Rattle.ae_equations.proofs.removing.undo.Goals as goal

pub returns-clause-places : goal.returns-clause-places
returns-clause-places g c = λ ps s. c.back-2.ensures.map ∙ s.is
