use Rattle.std.proofs.Common.{arith, ◌∙◌, List, ap}
use Rattle.std.proofs.lemmas.List.{take_all}
use Rattle.ae_core.specs.declared.terms.Sort.{Sort}
use Rattle.ae_elab.specs.Numbering.{once_more}
use Rattle.ae_elaboration.proofs.CollectLaws.{opened, sort_next}
use Rattle.ae_elaboration.proofs.numbering.collect_sorts.Goals as goal

pub loop-sort-preserved : goal.loop-sort-preserved
loop-sort-preserved c =
    sort_next c.args.variables.now c.loop-sort.variables c.collect_sort.new.variables c.args.sorts.now c.loop-sort.sort-index c.sort-item.result
    c.loop-sort-test.true c.sort-item.is c.loop-sort.invariant c.in_ok-collect_sort.ensures

pub returns : goal.returns
returns c =
    c.loop-sort.invariant
    ∙ ap (λ (ss : List Sort). once_more c.args.variables.now (opened ss)) (take_all c.loop-sort.sort-index c.args.sorts.now (omega (arith, c.loop-sort-test.false)))
