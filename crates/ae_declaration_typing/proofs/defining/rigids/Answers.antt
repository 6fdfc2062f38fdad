use Rattle.std.proofs.Common.{◌∙◌, ◌++◌, ◌∷◌, [], List, sym, ap}
use Rattle.ae_core.specs.declared.terms.Sort.{Sort, Rigid}
use Rattle.ae_declaration_typing.proofs.AdditionLaws.{rigids_more}
use Rattle.ae_declaration_typing.proofs.defining.rigids.Goals as goal

pub loop-number-preserved : goal.loop-number-preserved
loop-number-preserved c =
    c.in_ok-push.ensures.ok ∙ ap (λ (ss : List Sort). ss ++ Rigid c.loop-number.number ∷ []) c.loop-number.invariant ∙ sym (rigids_more c.loop-number.number)
