use Rattle.std.proofs.Common.{◌≡◌, ◌∙◌, ◌++◌, List, sym, ap}
use Rattle.std.specs.List.{flat_map}
use Rattle.ae_core.specs.declared.terms.Sort.{Sort}
use Rattle.ae_core.specs.declared.terms.Term.{Term}
use Rattle.ae_core.specs.declared.formulas.Formula.{Formula}
use Rattle.ae_elab.specs.Numbering.{once_more, sorts_in, sorts_in_term}
use Rattle.ae_elab.proofs.NumberRules.{in_block, in_pred}
use Rattle.ae_elaboration.proofs.CollectLaws.{opened, collected}
use Rattle.ae_elaboration.proofs.numbering.+collect.Goals as goal

pub collect_block-returns : goal.collect_block-returns
collect_block-returns t c =
    let old = c.args.variables.now in
    let q = c.args.quant.now in
    let one = c.collect_sorts.new.variables in
    let two = c.collect_triggers.new.variables in
    let three = c.collect.new.variables in
    let ts = flat_map (flat_map sorts_in_term) q.triggers in
    let first : one ≡ once_more old (opened q.sorts) =
    c.in_ok-collect_sorts.ensures ∙ ap (λ (z : List Sort). once_more old (opened z)) c.as_slice-sorts.ensures in
    let second : two ≡ once_more one (opened ts) =
    c.in_ok-collect_triggers.ensures ∙ ap (λ (z : List (List Term)). once_more one (opened (flat_map (flat_map sorts_in_term) z))) c.as_slice-triggers.ensures in
    let third : three ≡ once_more two (opened (sorts_in q.body)) =
    c.in_ok-collect.ensures ∙ ap (λ (z : Formula). once_more two (opened (sorts_in z))) c.get-body.ensures in
    collected old one three q.sorts (ts ++ sorts_in q.body) first (collected one two three ts (sorts_in q.body) second third)
    ∙ ap (λ (z : List Sort). once_more old (opened z)) (sym (in_block q))

pub collect-returns-in_ok-collect_terms-in-Pred : goal.collect-returns-in_ok-collect_terms-in-Pred
collect-returns-in_ok-collect_terms-in-Pred t c =
    let old = c.args.variables.now in
    let mid = c.collect_sorts.new.variables in
    let ss = c.in-Pred.sorts in
    let us = c.in-Pred.args in
    let first : mid ≡ once_more old (opened ss) = c.in_ok-collect_sorts-in-Pred.ensures ∙ ap (λ (z : List Sort). once_more old (opened z)) c.as_slice.ensures in
    let second : c.collect_terms.new.variables ≡ once_more mid (opened (flat_map sorts_in_term us)) =
    c.in_ok-collect_terms-in-Pred.ensures ∙ ap (λ (z : List Term). once_more mid (opened (flat_map sorts_in_term z))) c.as_slice-in-Pred.ensures in
    collected old mid c.collect_terms.new.variables ss (flat_map sorts_in_term us) first second
    ∙ ap (λ (z : List Sort). once_more old (opened z)) (sym (in_pred c.in-Pred.symbol ss us) ∙ ap sorts_in (sym c.in-Pred.is))
