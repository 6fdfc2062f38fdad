use Rattle.std.proofs.Common.{◌∙◌, ap}
use Rattle.ae_core.specs.declared.terms.Term.{Term}
use Rattle.ae_core.specs.declared.formulas.Formula.{Eq, Not}
use Rattle.ae_elaboration.proofs.elaboration.unequal.Goals as goal

pub returns : goal.returns
returns c =
    c.in_ok-whole.ensures
    ∙ ap (λ (z : Term). Not (Eq z c.in_ok-second.second)) c.in_ok-first.ensures
    ∙ ap (λ (z : Term). Not (Eq c.args.left.now z)) c.in_ok-second.ensures
