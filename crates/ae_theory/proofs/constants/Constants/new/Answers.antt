use Rattle.std.proofs.Common.{List, sym, subst}
use Rattle.ae_theory.specs.Classes.{FitsFrom}
use Rattle.ae_theory.specs.declared.nodes.Node.{Node}
use Rattle.ae_theory.proofs.Conflicts.{fits_none}
use Rattle.ae_theory.proofs.constants.Constants.new.Goals as goal

pub returns-clause-fits : goal.returns-clause-fits
returns-clause-fits c s = subst (λ (w : List Node). FitsFrom w s) (sym c.new-nodes.ensures) (fits_none s)
