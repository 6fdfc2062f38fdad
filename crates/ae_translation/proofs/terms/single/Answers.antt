use Rattle.std.proofs.Common.{◌∙◌, ◌++◌, ◌∷◌, [], List, ap}
use Rattle.ae_core.specs.declared.terms.Term.{Term}
use Rattle.ae_elab.specs.Elaboration.{leaf}
use Rattle.ae_translation.proofs.CaseLaws.{held_leaf}
use Rattle.ae_translation.proofs.NodeRules.{boxed_cases}
use Rattle.ae_translation.proofs.terms.single.Goals as goal

pub returns : goal.returns
returns c =
    boxed_cases c.new.result _ _ (held_leaf _ ∙ ap leaf (c.in_ok-push.ensures.ok ∙ ap (λ (z : List Term). z ++ c.args.term ∷ []) c.new-terms.ensures)) c.new.ensures
