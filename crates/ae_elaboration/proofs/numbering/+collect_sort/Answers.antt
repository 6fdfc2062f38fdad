use Rattle.std.proofs.Common.{arith, ◌≡◌, ◌∙◌, List, take, ap, sym}
use Rattle.std.proofs.lemmas.List.{take_all}
use Rattle.ae_core.specs.declared.terms.Sort.{Sort}
use Rattle.ae_elab.specs.Numbering.{open_sorts, once_more}
use Rattle.ae_elaboration.proofs.CollectLaws.{opened, sort_next}
use Rattle.ae_elab.proofs.SortsIn.{joined}
use Rattle.ae_elab.proofs.NumberRules.{open_named}
use Rattle.ae_elaboration.proofs.numbering.+collect_sort.Goals as goal

pub loop-arg-preserved : goal.loop-arg-preserved
loop-arg-preserved t c =
    sort_next c.args.variables.now c.loop-arg.variables c.collect_sort.new.variables c.as_slice-arg-items.result.now c.loop-arg.arg-index c.arg-item.result
    c.loop-arg-test.true c.arg-item.is c.loop-arg.invariant c.in_ok-collect_sort-in-Named.ensures

pub returns-after-loop-arg : goal.returns-after-loop-arg
returns-after-loop-arg t c =
    let old = c.args.variables.now in
    let e : take c.loop-arg.arg-index c.as_slice-arg-items.result.now ≡ c.in-Named.args =
    take_all c.loop-arg.arg-index c.as_slice-arg-items.result.now (omega arith) ∙ c.as_slice-arg-items.ensures in
    c.loop-arg.invariant
    ∙ ap (λ (ss : List Sort). once_more old (opened ss)) e
    ∙ ap (once_more old) (sym (joined open_sorts c.in-Named.args) ∙ sym (open_named _ c.in-Named.args) ∙ ap open_sorts (sym c.in-Named.is))
