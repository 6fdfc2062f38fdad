use Rattle.std.proofs.Common.{arith, ◌∙◌, List, ap}
use Rattle.std.specs.List.{flat_map}
use Rattle.std.proofs.lemmas.List.{take_all}
use Rattle.ae_core.specs.declared.terms.Term.{Term}
use Rattle.ae_elab.specs.Numbering.{once_more, sorts_in_term}
use Rattle.ae_elaboration.proofs.CollectLaws.{opened, part_next}
use Rattle.ae_elaboration.proofs.numbering.collect_terms.Goals as goal

pub loop-term-preserved : goal.loop-term-preserved
loop-term-preserved c =
    part_next sorts_in_term c.args.variables.now c.loop-term.variables c.collect_term.new.variables c.args.terms.now c.loop-term.term-index c.term-item.result
    c.loop-term-test.true c.term-item.is c.loop-term.invariant c.in_ok-collect_term.ensures

pub returns : goal.returns
returns c =
    c.loop-term.invariant
    ∙ ap (λ (z : List Term). once_more c.args.variables.now (opened (flat_map sorts_in_term z))) (take_all c.loop-term.term-index c.args.terms.now (omega (arith, c.loop-term-test.false)))
