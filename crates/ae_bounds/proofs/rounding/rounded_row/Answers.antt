use Rattle.std.proofs.Common.{sym, subst}
use Rattle.ae_num.specs.Forms.{IsNormal}
use Rattle.ae_bounds.proofs.rounding.rounded_row.Goals as goal

pub returns-then-is_empty-clause-normal : goal.returns-then-is_empty-clause-normal
returns-then-is_empty-clause-normal c = subst IsNormal (sym c.as_it_is.ensures.same) c.requires.normal

pub returns-in_default-clause-normal : goal.returns-in_default-clause-normal
returns-in_default-clause-normal c = subst IsNormal (sym c.as_it_is-in_default.ensures.same) c.requires.normal
