use Rattle.std.proofs.Common.{subst}
use Rattle.ae_num.specs.Forms.{IfWide}
use Rattle.ae_num.specs.declared.numbers.NumFail.{NumFail}
use Rattle.ae_number_solving.proofs.solutions.rest.Goals as goal

pub unreachable-requires : goal.unreachable-requires
unreachable-requires c = absurd (subst (λ (x : NumFail). IfWide x (λ w. ⊥)) c.in-Wide.is c.in-Err.ensures.never)
