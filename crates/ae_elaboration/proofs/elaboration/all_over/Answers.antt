use Rattle.std.proofs.Common.{◌∙◌, List, sym, ap}
use Rattle.ae_core.specs.declared.terms.Term.{Term}
use Rattle.ae_core.specs.declared.formulas.Formula.{All}
use Rattle.ae_elab.specs.Elaboration.{block}
use Rattle.ae_elaboration.proofs.ElaborationRules.{all_here, no_all}
use Rattle.ae_elaboration.proofs.elaboration.all_over.Goals as goal

pub returns-in_ok-merged-in-All : goal.returns-in_ok-merged-in-All
returns-in_ok-merged-in-All c = ap All c.in_ok-merged-in-All.ensures ∙ all_here c.args.sorts c.args.body c.in-All.inner c.in-All.is

pub returns-in_ok-block-in_default : goal.returns-in_ok-block-in_default
returns-in_ok-block-in_default c =
    ap All (c.in_ok-block-in_default.ensures ∙ ap (λ (z : List (List Term)). block c.args.sorts z c.args.body) c.new.ensures) ∙ sym (no_all c.args.sorts c.args.body c.in_default.not-All)
