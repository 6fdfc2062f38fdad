use Rattle.std.proofs.Common.{◌≡◌, ◌∙◌, List, [], sym, ap, true≢false}
use Rattle.ae_core.specs.declared.terms.Term.{Term}
use Rattle.ae_elab.specs.Elaboration.{over}
use Rattle.ae_elaboration.proofs.ElaborationRules.{has_first}
use Rattle.ae_elaboration.proofs.elaboration.over.Goals as goal

pub returns-in_ok-formula : goal.returns-in_ok-formula
returns-in_ok-formula c =
    let e : c.args.triggers ≡ [] = c.is_empty.ensures.0 c.if-is_empty.true in
    c.in_ok-formula.ensures ∙ sym (ap (λ (ts : List (List Term)). over c.args.quantifier c.args.sorts ts c.args.body) e)

pub returns-in_ok-whole : goal.returns-in_ok-whole
returns-in_ok-whole c =
    let h = has_first c.args.triggers (λ e. true≢false (sym (c.is_empty.ensures.1 e) ∙ c.if-is_empty.false)) in
    c.in_ok-whole.ensures h.0 h.1 h.2
