use Rattle.std.proofs.Common.{arith, ◌≡◌, ◌∙◌, List, ◌++◌, take, ap, sym}
use Rattle.std.specs.List.{flat_map}
use Rattle.std.proofs.lemmas.List.{append-nil, take_all}
use Rattle.ae_core.specs.declared.terms.Sort.{Sort}
use Rattle.ae_core.specs.declared.terms.Term.{Term}
use Rattle.ae_elab.specs.Numbering.{once_more, open_sorts, sorts_in_term}
use Rattle.ae_elaboration.proofs.CollectLaws.{opened, collected, part_next}
use Rattle.ae_elab.proofs.SortsIn.{joined}
use Rattle.ae_elab.proofs.NumberRules.{in_apply, in_fresh}
use Rattle.ae_elaboration.proofs.numbering.+collect_term.Goals as goal

pub loop-arg-preserved : goal.loop-arg-preserved
loop-arg-preserved t c =
    part_next sorts_in_term c.collect_sorts.new.variables c.loop-arg.variables c.collect_term.new.variables c.as_slice-arg-items.result.now c.loop-arg.arg-index c.arg-item.result
    c.loop-arg-test.true c.arg-item.is c.loop-arg.invariant c.in_ok-collect_term-in-Apply.ensures

pub returns-after-loop-arg : goal.returns-after-loop-arg
returns-after-loop-arg t c =
    let old = c.args.variables.now in
    let mid = c.collect_sorts.new.variables in
    let ss = c.in-Apply.sorts in
    let us = c.in-Apply.args in
    let e : take c.loop-arg.arg-index c.as_slice-arg-items.result.now ≡ us =
    take_all c.loop-arg.arg-index c.as_slice-arg-items.result.now (omega arith) ∙ c.as_slice-arg-items.ensures in
    let first : mid ≡ once_more old (opened ss) = c.in_ok-collect_sorts-in-Apply.ensures ∙ ap (λ (z : List Sort). once_more old (opened z)) c.as_slice.ensures in
    let second : c.loop-arg.variables ≡ once_more mid (opened (flat_map sorts_in_term us)) =
    c.loop-arg.invariant ∙ ap (λ (z : List Term). once_more mid (opened (flat_map sorts_in_term z))) e in
    collected old mid c.loop-arg.variables ss (flat_map sorts_in_term us) first second
    ∙ ap (λ (z : List Sort). once_more old (opened z))
    (ap (λ (z : List Sort). ss ++ z) (sym (joined sorts_in_term us)) ∙ sym (in_apply _ ss us) ∙ ap sorts_in_term (sym c.in-Apply.is))

pub returns-in_ok-collect_sort-in-Fresh : goal.returns-in_ok-collect_sort-in-Fresh
returns-in_ok-collect_sort-in-Fresh t c =
    let old = c.args.variables.now in
    let s = c.in-Fresh.sort in
    c.in_ok-collect_sort-in-Fresh.ensures
    ∙ ap (λ (z : Sort). once_more old (open_sorts z)) c.get.ensures
    ∙ ap (once_more old) (sym (append-nil (open_sorts s)))
    ∙ ap (λ (z : List Sort). once_more old (opened z)) (sym (in_fresh _ s) ∙ ap sorts_in_term (sym c.in-Fresh.is))
