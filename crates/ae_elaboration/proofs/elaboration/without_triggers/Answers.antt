use Rattle.std.proofs.Common.{◌∙◌, [], sym, ap}
use Rattle.ae_syntax.specs.declared.exprs.Quantifier.{Quantifier}
use Rattle.ae_elab.specs.Elaboration.{over}
use Rattle.ae_elaboration.proofs.elaboration.without_triggers.Goals as goal

pub returns-in_ok-all-in-Forall : goal.returns-in_ok-all-in-Forall
returns-in_ok-all-in-Forall c = c.in_ok-all-in-Forall.ensures ∙ sym (ap (λ (q : Quantifier). over q c.args.sorts [] c.args.body) c.in-Forall.is)

pub returns-in_ok-some-in-Exists : goal.returns-in_ok-some-in-Exists
returns-in_ok-some-in-Exists c = c.in_ok-some-in-Exists.ensures ∙ sym (ap (λ (q : Quantifier). over q c.args.sorts [] c.args.body) c.in-Exists.is)
