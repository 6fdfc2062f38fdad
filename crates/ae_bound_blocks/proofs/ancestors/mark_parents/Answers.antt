use Rattle.std.specs.Prelude.{suc, zero, ◌<◌}
use Rattle.std.specs.List.{Contains}
use Rattle.std.proofs.Common.{arith, refl, sym, subst}
use Rattle.ae_bounds.specs.declared.rows.Origin.{Origin}
use Rattle.ae_bound_blocks.specs.Ancestors.{parents}
use Rattle.ae_bound_blocks.proofs.ancestors.mark_parents.Goals as goal

pub mark_both-requires-clause-lower : goal.mark_both-requires-clause-lower
mark_both-requires-clause-lower c =
    c.requires.within c.in-Combined.lower (subst (λ (o : Origin). Contains (parents o) c.in-Combined.lower) (sym c.in-Combined.is) (zero, (let l : 0 < 2 = omega arith in l), refl))

pub mark_both-requires-clause-upper : goal.mark_both-requires-clause-upper
mark_both-requires-clause-upper c =
    c.requires.within c.in-Combined.upper (subst (λ (o : Origin). Contains (parents o) c.in-Combined.upper) (sym c.in-Combined.is) (suc zero, (let l : 1 < 2 = omega arith in l), refl))
