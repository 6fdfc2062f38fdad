use Rattle.std.proofs.Common.{sym, subst}
use Rattle.ae_inequalities.specs.Held.{Held, AreOfTags}
use Rattle.ae_inequalities.proofs.bounds.Bounds.assume.Goals as goal

pub returns-clause-of_tags : goal.returns-clause-of_tags
returns-clause-of_tags c = λ assumed all own. c.assume_row.ensures.of_tags assumed (subst (λ (b : Held). AreOfTags assumed b) (sym c.self.view_is) all) own
