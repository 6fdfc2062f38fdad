use Rattle.std.proofs.Common.{subst}
use Rattle.ae_state.specs.declared.holding.Holding.{Holding}
use Rattle.ae_combine.specs.Marks.{IsMarkOf}
use Rattle.ae_combine.proofs.state.StateTheory.mark.Goals as goal

pub mark-requires : goal.mark-requires
mark-requires g c = record { right = c.self.invariant.0 }

pub returns-clause-mark : goal.returns-clause-mark
returns-clause-mark g c =
    subst (λ (o : Holding). IsMarkOf o (record { held = c.mark.result; complete_for = c.self.inside.complete_for }) o) c.self.view_is (c.mark.ensures.mark, c.self.invariant.1)
