use Rattle.std.proofs.Common.{◌∙◌, List, sym, ap}
use Rattle.ae_core.specs.declared.terms.Term.{Term}
use Rattle.ae_core.specs.declared.formulas.Formula.{Ex}
use Rattle.ae_elab.specs.Elaboration.{block}
use Rattle.ae_elaboration.proofs.ElaborationRules.{some_here, no_ex}
use Rattle.ae_elaboration.proofs.elaboration.some_over.Goals as goal

pub returns-in_ok-merged-in-Ex : goal.returns-in_ok-merged-in-Ex
returns-in_ok-merged-in-Ex c = ap Ex c.in_ok-merged-in-Ex.ensures ∙ some_here c.args.sorts c.args.body c.in-Ex.inner c.in-Ex.is

pub returns-in_ok-block-in_default : goal.returns-in_ok-block-in_default
returns-in_ok-block-in_default c =
    ap Ex (c.in_ok-block-in_default.ensures ∙ ap (λ (z : List (List Term)). block c.args.sorts z c.args.body) c.new.ensures) ∙ sym (no_ex c.args.sorts c.args.body c.in_default.not-Ex)
