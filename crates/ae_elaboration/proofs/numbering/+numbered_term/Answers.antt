use Rattle.std.proofs.Common.{arith, ◌≡◌, ap, sym, ◌∙◌, List, map, take}
use Rattle.std.proofs.lemmas.List.{take_all}
use Rattle.ae_core.specs.declared.terms.Sort.{Sort}
use Rattle.ae_core.specs.declared.terms.Term.{Apply}
use Rattle.ae_elab.specs.Numbering.{numbered_sort, with_sorts_term}
use Rattle.ae_elab.proofs.NumberRules.{with_apply}
use Rattle.ae_elaboration.proofs.numbering.+numbered_term.Goals as goal

pub returns-after-loop-arg : goal.returns-after-loop-arg
returns-after-loop-arg t c =
    let r = numbered_sort c.args.is_goal c.args.variables.now in
    let h = c.in-Apply.head in
    let e : take c.loop-arg.arg-index c.as_slice-arg-items.result.now ≡ c.in-Apply.args =
    take_all c.loop-arg.arg-index c.as_slice-arg-items.result.now (omega arith) ∙ c.as_slice-arg-items.ensures in
    let sorts : c.in_ok-sorts-in-Apply.sorts ≡ map r c.in-Apply.sorts = c.in_ok-sorts-in-Apply.ensures ∙ ap (map r) c.as_slice.ensures in
    ap (λ (ss : List Sort). Apply h ss c.loop-arg.copies) sorts
    ∙ ap (Apply h (map r c.in-Apply.sorts)) (c.loop-arg.invariant ∙ ap (map (with_sorts_term r)) e)
    ∙ sym (with_apply r h c.in-Apply.sorts c.in-Apply.args)
    ∙ ap (with_sorts_term r) (sym c.in-Apply.is)
