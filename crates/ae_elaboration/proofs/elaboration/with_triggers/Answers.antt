use Rattle.std.proofs.Common.{◌∙◌, sym, ap}
use Rattle.ae_core.specs.declared.formulas.Formula.{All, Ex}
use Rattle.ae_syntax.specs.declared.exprs.Quantifier.{Quantifier}
use Rattle.ae_elab.specs.Elaboration.{over}
use Rattle.ae_elaboration.proofs.ElaborationRules.{over_all, over_some}
use Rattle.ae_elaboration.proofs.elaboration.with_triggers.Goals as goal

pub returns-in-Forall : goal.returns-in-Forall
returns-in-Forall c = λ t more e.
    ap All c.in_ok-quant.ensures
    ∙ over_all c.args.sorts c.args.triggers c.args.body t more e
    ∙ sym (ap (λ (q : Quantifier). over q c.args.sorts c.args.triggers c.args.body) c.in-Forall.is)

pub returns-in-Exists : goal.returns-in-Exists
returns-in-Exists c = λ t more e.
    ap Ex c.in_ok-quant.ensures
    ∙ over_some c.args.sorts c.args.triggers c.args.body t more e
    ∙ sym (ap (λ (q : Quantifier). over q c.args.sorts c.args.triggers c.args.body) c.in-Exists.is)
