use Rattle.std.proofs.Common.{◌∙◌, ◌∷◌, [], List, ap}
use Rattle.ae_core.specs.declared.terms.Head.TheVariants as head
use Rattle.ae_core.specs.declared.terms.Sort.{Sort}
use Rattle.ae_core.specs.declared.terms.Term.{Term, Apply}
use Rattle.ae_elab.specs.Elaboration.{leaf}
use Rattle.ae_translation.proofs.NodeRules.{same_cases}
use Rattle.ae_translation.proofs.terms.void.Goals as goal

pub returns : goal.returns
returns c =
    same_cases c.single.result _ _
    (ap (λ (z : List Sort). leaf (Apply head.Void z c.new-2.result ∷ [])) c.new.ensures ∙ ap (λ (z : List Term). leaf (Apply head.Void [] z ∷ [])) c.new-2.ensures) c.single.ensures
